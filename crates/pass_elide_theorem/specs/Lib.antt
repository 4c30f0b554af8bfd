pub mod Ready
pub mod Exact
pub mod Carried
