pub mod FormMap
pub mod Map
pub mod Locating
