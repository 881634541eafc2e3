pub mod LevelLaws
pub mod TakenLaws
