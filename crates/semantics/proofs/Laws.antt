-- What is proved of the definitions, for the crates above. Nothing here has to be believed.
pub mod Bodies
pub mod Stops
pub mod Agree
pub mod Access
pub mod Budgets
pub mod Saturation
pub mod Posts
pub mod Starting
pub mod Tracing
pub mod Refusals
pub mod Related
