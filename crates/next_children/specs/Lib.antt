pub mod Nexts
pub mod Names
pub mod Line
