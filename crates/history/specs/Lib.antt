pub mod History
pub mod Calls
