pub mod SavedState
