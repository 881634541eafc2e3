pub mod FormLaws
pub mod TokenLaws
pub mod TellLaws
pub mod ChoiceLaws
