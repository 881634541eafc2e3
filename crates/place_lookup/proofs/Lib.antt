pub mod StepLaws
pub mod SpanLaws
