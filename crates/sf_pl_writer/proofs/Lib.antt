mod Common
pub mod Lines
pub mod Pads
