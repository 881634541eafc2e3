pub mod Reading
pub mod Laws
pub mod ModelsLaws
pub mod Examples
