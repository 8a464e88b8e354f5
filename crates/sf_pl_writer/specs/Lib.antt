pub mod Length
pub mod PlText
pub mod ReportText
