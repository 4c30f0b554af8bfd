pub mod Tables
pub mod LabelPositions
pub mod Numbers
pub mod Lists
pub mod Extents
pub mod Parts
pub mod Marking
