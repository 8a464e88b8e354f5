mod Common
pub mod HardLines
pub mod Keeping
pub mod LineSteps
pub mod Results
pub mod StandingLaws
pub mod PlaceLaws
pub mod NetLaws
pub mod Names
pub mod Joining
pub mod Likes
pub mod Sizes
pub mod Ranges
pub mod OwnerSteps
pub mod Numbered
pub mod WeightSteps
pub mod WeightLaws
