pub mod Short
pub mod ShortActs
pub mod ShortStates
pub mod ShortSteps
