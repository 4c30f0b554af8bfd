pub mod FramedRuns
pub mod PlainRuns
pub mod SourceRuns
