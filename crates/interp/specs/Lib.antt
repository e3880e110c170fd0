pub mod Answers
pub mod Internal
pub mod Laws
