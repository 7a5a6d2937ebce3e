pub mod RecordLaws
pub mod KeptLaws
