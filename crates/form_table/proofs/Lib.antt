pub mod Numbers
pub mod TableLaws
