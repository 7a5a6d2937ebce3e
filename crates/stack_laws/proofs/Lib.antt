pub mod CodeLaws
pub mod FillLaws
pub mod MarkLaws
pub mod ReadLaws
pub mod StampLaws
pub mod TableLaws
pub mod WholeLaws
pub mod WordLaws
