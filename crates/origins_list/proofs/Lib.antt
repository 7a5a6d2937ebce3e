pub mod SpotLaws
pub mod KeepLaws
pub mod HistoryLaws
pub mod ToldLaws
pub mod StepLaws
pub mod CarriedLaws
pub mod SameLaws
