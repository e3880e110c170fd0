pub mod Traces
pub mod Comparing
pub mod Claims
