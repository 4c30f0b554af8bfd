pub mod Behind
