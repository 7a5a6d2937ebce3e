pub mod Image
pub mod Reading
pub mod Walk
pub mod Ops
