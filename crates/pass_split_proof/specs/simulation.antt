pub mod Followed
pub mod Given
pub mod Knowing
pub mod Premises
pub mod Statement
