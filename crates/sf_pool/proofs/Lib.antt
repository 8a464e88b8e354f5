mod Common
pub mod Core
mod Replaced
mod Zipped
