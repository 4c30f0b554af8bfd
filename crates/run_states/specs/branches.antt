pub mod MovedState
