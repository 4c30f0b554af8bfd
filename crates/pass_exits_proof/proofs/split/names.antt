pub mod Items
pub mod Made
pub mod Parts
pub mod Sources
