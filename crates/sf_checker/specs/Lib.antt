pub mod Walking
pub mod Listed
pub mod Answers
pub mod Standing
pub mod Stages
pub mod Feeding
