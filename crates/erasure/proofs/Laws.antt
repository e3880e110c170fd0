-- The proofs behind the theorems. Nothing here has to be believed.
pub mod Kept
pub mod Erases
pub mod Typing
pub mod Runs
pub mod Sheets
pub mod Bytes
pub mod Types
pub mod Terms
pub mod Places
pub mod Nesting
pub mod Readable
pub mod Programs
pub mod Values
