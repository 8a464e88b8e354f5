mod Common
pub mod Each
pub mod Places
pub mod Ends
pub mod PairSize
pub mod BlocksBelow
pub mod Counting
pub mod Bounded
pub mod Walks
pub mod Floored
pub mod Used
pub mod Determined
pub mod FirstWrong
