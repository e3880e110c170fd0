-- What is proved of the definitions. Nothing here has to be believed.
pub mod Arithmetic
pub mod Pairs
pub mod Containment
pub mod Sheets
pub mod Counts
pub mod Bytes
pub mod Reading
pub mod Replacing
pub mod Chosen
