mod Common
pub mod Settled
pub mod SplitMarks
pub mod Stage
pub mod Runs
pub mod Certified
pub mod Ended
pub mod Handed
pub mod Teamed
pub mod OneCert
