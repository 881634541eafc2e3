pub mod CreateConditions
pub mod CreateLimits
pub mod DestroyConditions
pub mod DestroyLimits
