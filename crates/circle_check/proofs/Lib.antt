pub mod MemberLaws
pub mod RoundLaws
pub mod CircleLaws
pub mod ReadLaws
pub mod AvoidLaws
