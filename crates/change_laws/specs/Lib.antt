pub mod FirstCondition
