pub mod Figures
pub mod State
