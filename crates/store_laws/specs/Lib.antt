pub mod Stores
pub mod Forms
