pub mod Finding
pub mod Coming
