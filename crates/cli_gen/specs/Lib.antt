pub mod Pieces
pub mod Places
pub mod Suspending
pub mod Generated
