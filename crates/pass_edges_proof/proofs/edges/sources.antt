pub mod Accepted
pub mod Known
pub mod Rules
pub mod States
