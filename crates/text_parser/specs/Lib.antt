pub mod Known
pub mod Functions
pub mod Items
pub mod Parse
pub mod Reading
