pub mod Keeping
pub mod Pairs
pub mod Greater
pub mod Lawful
