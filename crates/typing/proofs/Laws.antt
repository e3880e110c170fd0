-- What is proved of the definitions, for the crates above. Nothing here has to be believed.
pub mod Subtyping
pub mod Checking
pub mod Types
pub mod Variants
pub mod Faults
pub mod Places
