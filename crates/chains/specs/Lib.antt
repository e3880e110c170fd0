pub mod Explaining
pub mod Answers
pub mod Chains
pub mod Laws
pub mod Theorems
pub mod Cases
