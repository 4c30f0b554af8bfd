pub mod Framed
pub mod Numbers
pub mod Small
