pub mod GivenLaws
pub mod ChangeLaws
