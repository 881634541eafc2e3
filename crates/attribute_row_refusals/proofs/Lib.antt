pub mod AttributeTests
pub mod AttributesAfter
pub mod AttributeRefusals
