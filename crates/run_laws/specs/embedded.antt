pub mod Deaths
pub mod Making
pub mod Marks
pub mod Refilled
pub mod Related
