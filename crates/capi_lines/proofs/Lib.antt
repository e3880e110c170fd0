pub mod StateLaws
pub mod EntryLaws
