pub mod Path
pub mod Stretches
