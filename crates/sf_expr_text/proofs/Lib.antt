mod Common
pub mod Written
pub mod Named
pub mod ReadSteps
pub mod WordTexts
pub mod SoFar
pub mod Fronts
pub mod TextLaws
pub mod Refused
pub mod Respelled
