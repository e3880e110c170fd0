pub mod FindLaws
pub mod JudgementLaws
