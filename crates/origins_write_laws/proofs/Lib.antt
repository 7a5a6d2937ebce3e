pub mod NumberLaws
pub mod RecordLaws
pub mod ClearLaws
pub mod EndLaws
