pub mod Records
pub mod Lines
pub mod Programs
pub mod Program
pub mod Same
pub mod Text
pub mod Samples
pub mod Votes
