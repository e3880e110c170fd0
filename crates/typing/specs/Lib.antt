pub mod Subtyping
pub mod Rules
pub mod Checking
pub mod Places
pub mod Faults
pub mod Verdicts
pub mod Answers
