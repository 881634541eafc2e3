pub mod LayoutLaws
pub mod RowLaws
pub mod RecordLaws
pub mod HeaderLaws
