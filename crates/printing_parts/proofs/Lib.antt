pub mod WalkLaws
pub mod PartLaws
