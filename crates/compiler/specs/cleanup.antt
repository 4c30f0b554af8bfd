pub mod accepted
pub mod rules
pub mod unnamed_intrinsics
