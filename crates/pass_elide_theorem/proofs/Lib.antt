pub mod Exact
pub mod States
pub mod Steps
pub mod Frames
pub mod LastReturns
pub mod OnFronts
pub mod Lasting
