pub mod Ends
pub mod Layout
pub mod Pins
pub mod WireParts
