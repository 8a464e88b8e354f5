mod Common
pub mod Cover
pub mod Apart
pub mod Halves
pub mod Reached
pub mod Grown
pub mod Depth
pub mod Normalised
pub mod Spanned
pub mod Spelled
pub mod Begun
pub mod Later
