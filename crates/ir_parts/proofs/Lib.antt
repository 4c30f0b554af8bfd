pub mod FirstParts
pub mod LocalsIn
