mod Common
pub mod Generator
pub mod Counts
pub mod Growing
pub mod TextLines
pub mod TextWords
pub mod NetsRead
pub mod EndsDrawn
pub mod BlockLines
pub mod BlocksRead
pub mod PlacesRead
pub mod Joined
pub mod Admitting
pub mod Shaped
