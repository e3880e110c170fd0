pub mod RecordLaws
pub mod WriteLaws
