pub mod Records
pub mod Decoded
pub mod Running
pub mod Kept
pub mod Program
