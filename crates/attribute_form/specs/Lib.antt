pub mod Attributes
