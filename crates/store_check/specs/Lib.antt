pub mod Reading
pub mod Check
