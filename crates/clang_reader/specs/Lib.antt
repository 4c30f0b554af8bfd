pub mod Forms
pub mod Plain
pub mod Bitcasts
pub mod Chains
pub mod Written
pub mod Read
