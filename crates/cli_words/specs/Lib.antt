pub mod App
pub mod Asked
pub mod Lists
pub mod Told
