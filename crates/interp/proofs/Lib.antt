pub mod StartLaws
pub mod AdmissionLaws
pub mod RunLaws
