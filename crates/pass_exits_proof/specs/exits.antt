pub mod states
