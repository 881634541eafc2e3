pub mod StepLaws
pub mod WalkLaws
pub mod PlainLaws
pub mod SettledLaws
