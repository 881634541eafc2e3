pub mod ScanLaws
pub mod LoopLaws
pub mod UndoingLaws
