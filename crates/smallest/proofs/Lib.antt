pub mod JudgementLaws
pub mod VisitLaws
