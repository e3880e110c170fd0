pub mod Serving
pub mod Answers
pub mod Sessions
pub mod Theorems
pub mod Cases
