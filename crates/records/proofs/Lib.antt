pub mod RecordLaws
pub mod StringLaws
pub mod CodeLaws
