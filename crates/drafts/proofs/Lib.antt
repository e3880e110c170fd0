pub mod DraftLaws
pub mod LineLaws
