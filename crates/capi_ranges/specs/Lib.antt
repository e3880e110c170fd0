pub mod Entries
pub mod Internal
