pub mod Sizes
pub mod SlotSizes
