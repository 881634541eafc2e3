pub mod ModelLaws
pub mod PutLaws
pub mod ContentLaws
