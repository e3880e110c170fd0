pub mod Smallest
pub mod Judging
pub mod Answers
pub mod Claims
pub mod Cases
