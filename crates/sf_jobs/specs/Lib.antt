pub mod Job
pub mod Jobs
pub mod Team
pub mod Plan
pub mod Seen
pub mod Told
