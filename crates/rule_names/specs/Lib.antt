pub mod Definitions
pub mod Items
pub mod Known
pub mod Numbers
pub mod Reserved
pub mod Stage
