pub mod TurnLaws
pub mod FileLaws
pub mod RanLaws
pub mod AlikeLaws
