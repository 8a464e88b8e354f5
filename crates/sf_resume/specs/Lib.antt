pub mod Reading
pub mod Reach
pub mod Apart
pub mod Early
pub mod Grafted
pub mod Resumed
