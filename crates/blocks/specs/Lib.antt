pub mod Block
pub mod Answers
pub mod Internal
pub mod Laws
pub mod Theorems
