pub mod Items
pub mod Kept
pub mod Made
pub mod Spellings
pub mod Unreserved
