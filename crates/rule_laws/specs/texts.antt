pub mod order_meaning
pub mod spelled
