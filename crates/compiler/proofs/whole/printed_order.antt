pub mod Main
pub mod Printed
