mod Common
pub mod Bits
pub mod Plans
pub mod Law
pub mod Added
pub mod Filled
pub mod Blocks
pub mod Splits
pub mod Areas
pub mod Sizes
pub mod Learned
