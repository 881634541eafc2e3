pub mod Reading
pub mod ByNumber
pub mod Chunks
pub mod ModelLaws
