pub mod Empty
pub mod Takes
pub mod LinesTake
pub mod ItemsTake
