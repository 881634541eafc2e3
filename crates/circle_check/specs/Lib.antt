pub mod Members
pub mod Deep
pub mod Avoiding
