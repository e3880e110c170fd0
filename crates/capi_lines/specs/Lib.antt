pub mod States
pub mod Entries
pub mod Internal
pub mod Theorems
