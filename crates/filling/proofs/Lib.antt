pub mod FillingLaws
pub mod DepthLaws
pub mod NewLaws
pub mod NeededLaws
