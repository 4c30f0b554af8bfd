pub mod ItemSteps
pub mod ParamSteps
pub mod FunctionsRead
pub mod Retyped
pub mod ItemsRead
pub mod TextRead
