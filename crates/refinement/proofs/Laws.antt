-- What the theorems are proved from. Nothing here has to be believed.
pub mod Cells
pub mod Records
pub mod Codings
pub mod Relation
pub mod Steps
pub mod Controls
pub mod Simulation
pub mod Trees
pub mod Exact
pub mod Intervals
pub mod Runs
