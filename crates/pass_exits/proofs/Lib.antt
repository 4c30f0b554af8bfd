mod BesideBlocks
mod LeftWindows
mod Marks
