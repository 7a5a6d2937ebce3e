pub mod Turn
pub mod Runs
pub mod Rest
