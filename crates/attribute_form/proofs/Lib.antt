pub mod CountLaws
pub mod FormParts
