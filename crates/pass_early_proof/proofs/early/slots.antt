pub mod Edges
pub mod Laws
pub mod NamedPlaces
pub mod NamedSlots
pub mod RenamedParts
pub mod RenamedSlots
pub mod SavedSlots
