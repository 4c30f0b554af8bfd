pub mod Coroutines
pub mod Finals
pub mod Found
pub mod Freed
pub mod Given
pub mod Ids
pub mod Others
pub mod Promises
