pub mod SerialsLaws
pub mod TreeLaws
