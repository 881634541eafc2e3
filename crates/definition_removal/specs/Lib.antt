pub mod Bodies
pub mod Shifting
