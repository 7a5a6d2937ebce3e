pub mod CallLaws
pub mod LocatingLaws
