pub mod Naming
pub mod Told
pub mod Assembly
pub mod Laid
pub mod Searched
