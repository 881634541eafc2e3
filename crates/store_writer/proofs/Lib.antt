pub mod LimitLaws
pub mod OutcomeLaws
pub mod CallLaws
pub mod FormAnswers
pub mod EditLaws
