mod Common
pub mod Folded
pub mod ToNat
pub mod WeighedParts
pub mod Shifting
pub mod ModestExtents
pub mod LaidTokens
pub mod SeatTable
pub mod PinLoops
pub mod Meeting
pub mod Pairing
pub mod Ranges
pub mod ReadyLayout
pub mod Hulls
pub mod NetParts
pub mod PartSums
