pub mod Intrinsics
