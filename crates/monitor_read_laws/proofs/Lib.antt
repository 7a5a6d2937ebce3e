pub mod AnswerLaws
pub mod AskingLaws
pub mod AuditingLaws
pub mod PlacingLaws
pub mod ClimbingLaws
pub mod JudgingLaws
pub mod RangingLaws
pub mod SkippingLaws
