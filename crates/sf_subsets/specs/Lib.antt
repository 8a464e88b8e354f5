pub mod Sets
pub mod Floors
pub mod Covering
pub mod Gathering
