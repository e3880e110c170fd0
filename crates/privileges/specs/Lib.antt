pub mod Sets
pub mod Booleans
pub mod Laws
