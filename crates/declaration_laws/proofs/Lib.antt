pub mod TextParts
pub mod GroupText
pub mod ModelText
pub mod LineText
pub mod LinesRead
pub mod Declaring
pub mod TextLength
