pub mod Kept
pub mod Renumbered
pub mod Naming
pub mod FittingRows
