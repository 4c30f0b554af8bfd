pub use Rattle.run_source_tables.proofs as run_source_tables
pub mod OfCalls
pub mod Acting
pub mod Iterating
pub mod Settings
pub mod Walks
pub mod Indexes
pub mod Chains
pub mod Freeing
pub mod Beginning
pub mod Slots
pub mod OwnSlots
pub mod Leaving
pub mod Promises
pub mod Sleeping
pub mod Looked
