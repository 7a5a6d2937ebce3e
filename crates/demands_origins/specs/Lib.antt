pub mod Demand1
pub mod PlainKinds
pub mod Alters
pub mod Demand3
pub mod Judged
