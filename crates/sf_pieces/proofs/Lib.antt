mod Common
pub mod Names
pub mod Preorder
pub mod Pieces
pub mod Line
pub mod Tree
pub mod Branching
pub mod Ahead
pub mod Assembled
pub mod Runs
pub mod Weights
pub mod Laid
pub mod Searched
