pub mod Declared
pub mod Names
