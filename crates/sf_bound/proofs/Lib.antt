mod Common
pub mod Spans
pub mod Whole
pub mod OnlyPlan
pub mod LeastArea
pub mod OnePlan
pub mod ChildOf
