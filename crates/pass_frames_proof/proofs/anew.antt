pub mod Cells
pub mod Last
pub mod Lists
pub mod Made
pub mod Next
