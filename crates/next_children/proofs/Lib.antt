pub mod ToldLaws
pub mod NamesLaws
pub mod LineLaws
