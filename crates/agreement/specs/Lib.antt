pub mod Runners
pub mod Agreement
