pub mod Asked
pub mod Audited
pub mod Roomed
pub mod Climbed
