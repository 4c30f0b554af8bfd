pub mod Carried
pub mod Rules
pub mod Tables
