pub mod Memory
pub mod Open
pub mod Rows
