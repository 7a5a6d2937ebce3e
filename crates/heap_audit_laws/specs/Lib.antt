pub mod Turn
pub mod Runs
