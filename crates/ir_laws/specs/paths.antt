pub mod branches
pub mod expanded
pub mod order_meaning
pub mod renamed
pub mod rows
pub mod saved
pub mod threads
pub mod woven_rules
