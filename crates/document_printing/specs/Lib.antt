pub mod Documents
pub mod Coming
