pub mod FormLaws
pub mod FitLaws
pub mod LoopLaws
