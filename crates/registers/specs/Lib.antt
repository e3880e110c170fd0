pub mod Writes
pub mod Answers
pub mod Internal
pub mod Theorems
pub mod Cases
