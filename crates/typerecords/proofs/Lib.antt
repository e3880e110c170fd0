pub mod RangeLaws
pub mod TypeLaws
pub mod WordLaws
