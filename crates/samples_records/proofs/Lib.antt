pub mod RecordLaws
pub mod NameLaws
