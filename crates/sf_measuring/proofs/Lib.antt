mod Common
pub mod Legal
pub mod NearPlaces
pub mod Placing
