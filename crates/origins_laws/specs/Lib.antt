pub mod CellsAt
pub mod Pointers
