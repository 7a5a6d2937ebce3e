pub mod Records
pub mod Names
