pub mod Particle
pub mod Members
pub mod Steps
pub mod Places
pub mod Positions
