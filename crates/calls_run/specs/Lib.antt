pub mod Begun
pub mod Told
