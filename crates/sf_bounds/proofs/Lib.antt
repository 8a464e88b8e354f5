mod Common
pub mod Extended
pub mod Shares
pub mod RowLaws
pub mod Weights
pub mod Lefts
pub mod NetKept
pub mod NetPushed
pub mod NetRows
pub mod NetStarted
pub mod NetTotal
pub mod PartCosts
