mod Common
pub mod Sorting
pub mod Places
pub mod Covering
pub mod Joining
pub mod Whole
pub mod Nearest
pub mod Extent
pub mod Shapes
pub mod Reshaped
pub mod Parts
