pub mod CauseLaws
pub mod NextLaws
pub mod FollowLaws
