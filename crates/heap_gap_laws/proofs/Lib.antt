pub mod RestLaws
pub mod KeptLaws
