pub mod CallLaws
pub mod TextLaws
