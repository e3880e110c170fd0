pub mod Subsequences
pub mod Greedy
pub mod Records
