pub mod crossing
pub mod early_states
pub mod elision
pub mod frames
pub mod renaming
pub mod save_states
pub mod saves
