pub mod RecordLaws
pub mod ProgramLaws
pub mod LineLaws
pub mod CopyLaws
pub mod ServeLaws
pub mod KeptLaws
