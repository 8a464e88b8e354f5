pub mod Spots
pub mod Verdict
