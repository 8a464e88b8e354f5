mod Common
pub mod Measured
pub mod Writes
pub mod Numbered
pub mod Found
pub mod ByNumber
pub mod Legality
pub mod OneVerdict
