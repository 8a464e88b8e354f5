mod Common
pub mod Stages
pub mod YalRefused
