pub mod OwnEdges
pub mod Shaped
pub mod Suspends
