pub mod Cheapest
pub mod Only
