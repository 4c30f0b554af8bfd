pub mod sources
