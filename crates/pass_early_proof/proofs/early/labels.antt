pub mod Labels
