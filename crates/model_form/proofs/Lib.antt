pub mod OwnParts
pub mod Small
pub mod Edits
pub mod FormWriting
