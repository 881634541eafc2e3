pub mod ConformingTests
pub mod ElementTests
pub mod ParentLaws
pub mod ElementsAfter
pub mod IndexWords
pub mod RefusalLaws
pub mod ElementRefusals
