mod Common
pub mod Firsts
pub mod Tables
pub mod Ascending
pub mod Shapeless
pub mod Limited
pub mod Moved
pub mod PinsThere
pub mod NetSets
pub mod Designs
pub mod Paired
pub mod Determined
