pub mod Ends
pub mod Finishing
