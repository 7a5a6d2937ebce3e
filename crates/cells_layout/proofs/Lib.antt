pub mod AreaLaws
pub mod FitLaws
pub mod CellImages
