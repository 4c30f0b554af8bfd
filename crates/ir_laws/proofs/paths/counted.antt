pub mod Keepable
pub mod PartFacts
