pub mod Outside
pub mod MemShelf
pub mod MemSink
pub mod NeverShelf
pub mod Host
pub mod Partial
