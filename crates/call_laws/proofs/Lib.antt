pub mod Calls
pub mod Limits
