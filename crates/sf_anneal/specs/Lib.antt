pub mod Moves
pub mod Measured
pub mod Walk
pub mod Visits
pub mod Parts
pub mod Starts
