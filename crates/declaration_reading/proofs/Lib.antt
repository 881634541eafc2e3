pub mod LineLaws
pub mod CountLaws
pub mod BodyLaws
pub mod FormLaws
