pub mod Outcome
pub mod Refusals
pub mod Weighed
pub mod Reading
pub mod Loads
pub mod Losses
pub mod Stores
