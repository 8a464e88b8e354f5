pub mod Answers
pub mod Rule
