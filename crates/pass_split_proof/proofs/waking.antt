pub mod Addressed
pub mod Cut
pub mod Destroying
pub mod Transferring
