pub mod Joined
pub mod RowsMade
pub mod RowsStand
pub mod DeclaredFits
pub mod Outcome
