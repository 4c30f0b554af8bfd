pub mod Accepted
pub mod Faults
pub mod Once
pub mod Places
pub mod Sentences
pub mod Told
