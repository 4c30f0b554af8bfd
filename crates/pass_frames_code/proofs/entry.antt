pub mod Params
pub mod Puts
