-- What is proved of the definitions, for the crates above. Nothing here has to be believed.
pub mod Lists
pub mod Bytes
pub mod Screening
pub mod Search
pub mod Order
pub mod Kinds
pub mod Readable
pub mod Types
pub mod Trees
pub mod Nesting
pub mod Sizes
pub mod Guards
pub mod Longest
pub mod Records
