pub mod Largest
pub mod Theorems
