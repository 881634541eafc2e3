pub mod GroupLaws
pub mod ConvertLaws
