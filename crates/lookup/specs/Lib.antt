pub mod Bodies
pub mod Finding
