mod Common
pub mod Folds
pub mod Ends
pub mod Pinned
pub mod Products
