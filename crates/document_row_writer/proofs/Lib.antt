pub mod RowLaws
pub mod AfterLaws
pub mod StackLaws
pub mod PutLaws
