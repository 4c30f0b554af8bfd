pub mod begin_order
pub mod rules
pub mod shape
