mod Common
pub mod Frames
pub mod TreeReads
pub mod HeaderReads
pub mod WrittenBack
pub mod HeaderBack
pub mod PathReads
pub mod PathTexts
pub mod PathBack
pub mod PathsLead
pub mod CertBack
pub mod ByteReads
pub mod OpenLines
pub mod TreeLine
pub mod OpeningReads
pub mod CertSpells
