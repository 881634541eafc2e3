pub mod WithinLaws
pub mod GivenLaws
