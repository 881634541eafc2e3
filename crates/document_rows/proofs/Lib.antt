pub mod SuffixLaws
pub mod TreeLaws
pub mod StepLaws
pub mod SerialLaws
pub mod ReaderLaws
pub mod ElementFacts
pub mod RowFacts
