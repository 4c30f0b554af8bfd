pub mod Reachable
pub mod Split
pub mod Tabled
