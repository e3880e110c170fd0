pub mod Claims
pub mod Laws
pub mod Theorems
pub mod Cases
pub mod Pages
pub mod Saturation
pub mod RecordingCases
