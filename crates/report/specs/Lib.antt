pub mod Reports
pub mod Internal
pub mod Theorems
