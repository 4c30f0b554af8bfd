pub mod Reading
pub mod Locals
pub mod Groups
pub mod Attrs
pub mod Types
pub mod Values
pub mod Many
