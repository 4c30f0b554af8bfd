pub mod FramedFacts
