pub mod Turn
pub mod File
pub mod Ran
