pub mod KnownLaws
pub mod SubtypeLaws
