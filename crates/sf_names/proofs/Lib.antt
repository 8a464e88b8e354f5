mod Common
pub mod Indexes
pub mod Lookups
