pub mod Fields
pub mod Bodies
pub mod RowBytes
pub mod RecordBytes
pub mod Header
pub mod Form
pub mod Rows
