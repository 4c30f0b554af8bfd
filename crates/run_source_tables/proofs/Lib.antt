pub mod Walks
pub mod Finals
pub mod Operands
pub mod MarkTables
pub mod FramePositions
pub mod Looked
pub mod Tokens
