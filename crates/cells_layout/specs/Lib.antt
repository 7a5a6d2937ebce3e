pub mod Area
pub mod Cells
