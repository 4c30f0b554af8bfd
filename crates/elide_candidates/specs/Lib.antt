pub mod Onward
pub mod Candidates
pub mod Chains
