pub mod Parts
pub mod States
pub mod Order
pub mod Early
