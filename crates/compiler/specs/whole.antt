pub mod elided_forms
pub mod Passed
