pub mod ReadingLaws
pub mod CutLaws
