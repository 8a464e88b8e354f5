pub mod Alone
pub mod Built
pub mod Batch
pub mod Progress
