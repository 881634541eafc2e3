pub mod OwnParts
pub mod PlaceLaws
pub mod PickLaws
pub mod CountLaws
