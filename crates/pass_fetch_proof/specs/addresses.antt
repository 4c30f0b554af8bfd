pub mod begin_order
pub mod rules
