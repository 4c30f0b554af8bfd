pub mod Found
pub mod Walks
pub mod Unchanged
pub mod Entries
