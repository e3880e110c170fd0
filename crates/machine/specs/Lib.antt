pub mod Steps
pub mod Store
pub mod Lower
pub mod Tails
