pub mod Leading
pub mod Said
