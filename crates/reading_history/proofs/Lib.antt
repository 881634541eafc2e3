pub mod StartLaws
pub mod BoxLaws
pub mod RoundsExample
