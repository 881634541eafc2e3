pub mod RowsText
pub mod Declares
