pub mod meaning
