pub mod Progress
pub mod Chains
