pub mod Entered
pub mod OwnLabels
