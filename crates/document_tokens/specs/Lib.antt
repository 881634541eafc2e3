pub mod Tokens
pub mod Telling
