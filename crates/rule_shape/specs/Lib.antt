pub use Rattle.rule_windows.specs as rule_windows
pub mod Places
pub mod Uses
pub mod OneOfEach
pub mod Switches
pub mod Suspends
pub mod Promise
pub mod Shape
