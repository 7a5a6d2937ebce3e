pub mod CellsSame
pub mod OriginsSame
pub mod OriginsListSame
pub mod HistorySame
