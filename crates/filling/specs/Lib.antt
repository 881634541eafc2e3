pub mod Fillings
pub mod Parts
