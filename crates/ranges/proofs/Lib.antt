pub mod TableLaws
pub mod IntervalLaws
