pub mod ListLaws
pub mod QueueLaws
pub mod LineLaws
