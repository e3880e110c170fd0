pub mod TermLaws
pub mod VerdictLaws
