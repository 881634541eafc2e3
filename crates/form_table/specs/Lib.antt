pub mod Every
pub mod Lent
pub mod Table
