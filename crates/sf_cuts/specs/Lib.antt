pub mod Cuts
pub mod Packed
pub mod Parting
pub mod Shaping
