mod Common
pub mod Texts
pub mod Hyphens
pub mod Tokens
pub mod Numbers
pub mod Lookup
pub mod Unique
pub mod Rules
pub mod Steps
pub mod Walks
pub mod Rows
pub mod Whole
pub mod KeptTexts
pub mod Build
pub mod FoundMeaning
