pub mod ModelTests
pub mod Particles
