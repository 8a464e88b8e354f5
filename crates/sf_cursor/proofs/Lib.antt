mod Common
pub mod Ways
pub mod Flags
pub mod Parting
