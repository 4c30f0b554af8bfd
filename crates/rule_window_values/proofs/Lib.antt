pub mod Iffs
pub mod Bits
pub mod Using
pub mod Taking
pub mod Reaching
pub mod Asking
pub mod Numbering
pub mod Spanning
