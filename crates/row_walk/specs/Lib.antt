pub mod Walk
pub mod Step
pub mod Refilled
pub mod Lent
