pub mod Step
pub mod Going
pub mod Props
