pub mod Call
pub mod CellOps
pub mod Cells
pub mod StateCalls
pub mod OriginList
pub mod Carries
pub mod History
