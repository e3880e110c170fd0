pub mod TailLaws
pub mod NoteLaws
pub mod StepLaws
