pub mod ReadStart
pub mod ReadBox
