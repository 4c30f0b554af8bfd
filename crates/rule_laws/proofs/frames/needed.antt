pub mod Apart
pub mod Follows
pub mod Made
pub mod Others
pub mod States
