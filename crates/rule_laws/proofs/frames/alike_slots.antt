pub mod Classes
pub mod Conflicts
pub mod SlotsAlike
pub mod Spots
pub mod Strands
pub mod Tests
pub mod Windows
