mod Common
pub mod Hiding
pub mod Cutting
pub mod Dimensions
pub mod Stepping
pub mod NetSteps
pub mod StatementSteps
pub mod SignalPins
pub mod Making
pub mod NetsBySignal
pub mod Cuts
pub mod Views
pub mod Results
pub mod Sound
pub mod InstanceBlocks
pub mod Standing
pub mod Ranges
pub mod CountSteps
