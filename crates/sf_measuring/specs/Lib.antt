pub mod Measured
pub mod Shaped
pub mod PlacedLines
