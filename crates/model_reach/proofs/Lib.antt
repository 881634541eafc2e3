pub mod FormFacts
pub mod ReachLaws
pub mod ModelLaws
