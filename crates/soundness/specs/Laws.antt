-- The proofs behind the theorems. Nothing here has to be believed.
pub mod Safety
pub mod Runs
