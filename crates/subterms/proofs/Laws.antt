-- The proofs behind the theorems, and laws for the code. Nothing here has to be believed.
pub mod Order
pub mod Subterms
pub mod Judgements
pub mod Pieces
pub mod Standing
pub mod Numbers
