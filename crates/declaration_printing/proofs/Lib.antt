pub mod MemberTexts
pub mod MemberLaws
pub mod LineLaws
