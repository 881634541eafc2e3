pub mod WrittenLaws
pub mod BlockLaws
