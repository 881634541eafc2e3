pub mod WriteLaws
pub mod ReadLaws
pub mod ElementLaws
pub mod SpanLaws
pub mod MarkLaws
