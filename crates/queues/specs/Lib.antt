pub mod Queues
pub mod Answers
pub mod Internal
pub mod Laws
pub mod Theorems
pub mod Cases
