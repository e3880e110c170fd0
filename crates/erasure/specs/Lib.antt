pub mod Kept
pub mod Lean
pub mod Erasure
pub mod Answers
pub mod Claims
pub mod Cases
