pub mod Words
pub mod Cells
pub mod Stops
pub mod Returns
