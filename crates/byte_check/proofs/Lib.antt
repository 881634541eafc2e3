pub mod TestLaws
pub mod NameLaws
