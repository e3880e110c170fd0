pub mod Replies
pub mod Internal
pub mod Laws
