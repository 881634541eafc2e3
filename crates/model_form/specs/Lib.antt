pub mod Editing
pub mod Placed
pub mod Props
