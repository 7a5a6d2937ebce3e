pub mod CallLaws
pub mod GuardLaws
