pub mod BeginNames
