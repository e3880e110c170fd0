pub mod Inference
pub mod Steps
pub mod Laws
