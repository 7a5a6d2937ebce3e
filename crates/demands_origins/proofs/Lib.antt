pub mod Alters
pub mod CellLaws
pub mod Demand1
pub mod Demand3
pub mod Judged
pub mod Numbers
pub mod PlainKinds
