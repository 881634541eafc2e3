pub mod Numbers
pub mod Records
pub mod Strings
pub mod Writers
