pub mod LocateLaws
