pub mod Ends
pub mod Framed
pub mod Idle
pub mod Instrs
pub mod Left
pub mod Names
pub mod Passes
