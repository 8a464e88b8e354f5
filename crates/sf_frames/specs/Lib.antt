-- what the crate answers
pub mod Curves
pub mod Least
pub mod Groups
pub mod Sums
pub mod Measured
-- what it keeps of a path
pub mod Kept
-- how much it keeps
pub mod Room
-- how curves are made anew
pub mod Anew
pub mod AreaPart
