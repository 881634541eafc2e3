pub mod Planned
pub mod Walking
