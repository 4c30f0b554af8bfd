pub mod Names
pub mod SlotsAlike
pub mod Still
pub mod Strands
