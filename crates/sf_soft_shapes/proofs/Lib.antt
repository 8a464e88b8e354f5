mod Common
pub mod Heights
pub mod Spread
pub mod Listing
pub mod Determined
