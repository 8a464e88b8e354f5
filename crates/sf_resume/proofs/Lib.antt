mod Common
pub mod Readings
pub mod Reached
pub mod Cut
pub mod FirstNames
pub mod Joined
pub mod Gone
pub mod Whole
