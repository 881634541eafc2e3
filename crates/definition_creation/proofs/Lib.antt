pub mod Created
pub mod CreatedBytes
