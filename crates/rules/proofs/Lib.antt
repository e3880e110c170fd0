pub mod BindingLaws
pub mod StepLaws
