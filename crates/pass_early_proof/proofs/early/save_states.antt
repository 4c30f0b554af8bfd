pub mod Actions
pub mod Acts
pub mod Calls
pub mod Intrinsics
pub mod Performs
pub mod Resumes
pub mod States
pub mod Suspends
