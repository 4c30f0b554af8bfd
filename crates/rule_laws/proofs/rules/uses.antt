pub mod Fine
pub mod Once
pub mod Plain
pub mod RampMade
pub mod RampQuiet
pub mod Switched
pub mod Unused
