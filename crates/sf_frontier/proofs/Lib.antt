mod Common
pub mod Steps
pub mod Teams
pub mod Totals
