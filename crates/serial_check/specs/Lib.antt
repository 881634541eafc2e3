pub mod Serials
pub mod Trees
