pub mod Laid
pub mod Part
