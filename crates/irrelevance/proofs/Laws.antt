-- The proofs behind the theorems. Nothing here has to be believed.
pub mod Naming
pub mod Runs
