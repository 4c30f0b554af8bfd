pub mod Outside
pub mod SavedWindows
pub mod Where
pub mod Windows
