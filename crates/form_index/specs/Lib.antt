pub mod Indices
pub mod Reading
