pub mod Paths
pub mod Text
pub mod Reading
pub mod Reader
pub mod Bytes
pub mod Waiting
