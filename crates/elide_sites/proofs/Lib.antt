pub mod DestroyRows
pub mod Ending
pub mod Ahead
pub mod Leading
pub mod Destroying
pub mod Choosing
pub mod Flags
pub mod SiteLists
