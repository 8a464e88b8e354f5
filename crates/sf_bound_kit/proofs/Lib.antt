mod Common
pub mod EachTwo
pub mod Sizes
pub mod Table
pub mod Apart
pub mod Closing
pub mod Kept
