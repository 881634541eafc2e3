pub mod FormTests
pub mod Bodies
