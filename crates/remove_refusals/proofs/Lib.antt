pub mod ContextViews
pub mod RemoveLaws
