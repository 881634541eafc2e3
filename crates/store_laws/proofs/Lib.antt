pub mod StoreLaws
pub mod FormBytesLaws
pub mod FormLaws
pub mod Encoded
pub mod RowBounds
