pub mod Begun
pub mod Coros
pub mod Heaps
pub mod Made
pub mod Results
pub mod Runs
pub mod States
pub mod Steps
