pub mod TableLaws
pub mod TermLaws
pub mod TypeLaws
