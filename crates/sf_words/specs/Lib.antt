pub mod Table
pub mod Words
pub mod Numbers
pub mod Outline
pub mod Meaning
pub mod Seen
pub mod App
pub mod Kept
