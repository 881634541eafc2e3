pub mod PartLaws
pub mod WalkLaws
pub mod RefusalLaws
pub mod FilledLaws
pub mod PlannedLaws
pub mod StillLaws
