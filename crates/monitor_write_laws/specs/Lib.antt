pub mod AreaCalls
pub mod Checks
