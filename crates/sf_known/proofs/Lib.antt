mod Common
pub mod OneKnown
pub mod Taken
pub mod Spelled
pub mod Beginning
