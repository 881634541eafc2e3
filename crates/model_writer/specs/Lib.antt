pub mod Spliced
pub mod PartAfter
pub mod Writing
