pub mod OrderLaws
pub mod EditedLaws
