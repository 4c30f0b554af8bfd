pub mod Entry
pub mod Judged
pub mod Standing
pub mod Symbols
pub mod Text
