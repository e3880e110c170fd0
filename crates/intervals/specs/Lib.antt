pub mod Intervals
pub mod Pairs
pub mod Runs
pub mod Choosing
pub mod Cases
pub mod ChoosingCases
pub mod Claims
