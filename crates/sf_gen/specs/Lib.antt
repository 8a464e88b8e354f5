pub mod Words
pub mod Drawn
pub mod Texts
pub mod Designs
