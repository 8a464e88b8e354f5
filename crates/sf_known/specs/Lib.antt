pub mod Known
pub mod Packed
pub mod Initial
pub mod Routed
