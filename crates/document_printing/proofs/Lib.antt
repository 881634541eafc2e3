pub mod RowTexts
pub mod RowLaws
pub mod SortLaws
