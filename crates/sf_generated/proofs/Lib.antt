mod Common
pub mod Made
