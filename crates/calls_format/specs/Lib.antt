pub mod Records
pub mod Decoded
pub mod Lines
pub mod Writing
pub mod Running
pub mod Kept
pub mod Program
