mod Common
pub mod Walks
pub mod Answered
pub mod Plans
pub mod OneAnswer
pub mod Judged
pub mod Fed
pub mod Names
