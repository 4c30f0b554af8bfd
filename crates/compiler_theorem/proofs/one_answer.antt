pub mod Ordered
pub mod Placings
pub mod Layouts
pub mod Refusals
pub mod Forms
pub mod Lowerings
