pub mod CountLaws
pub mod WalkBound
pub mod BoundLaws
pub mod PlaceLaws
