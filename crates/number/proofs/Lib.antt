pub mod TestLaws
pub mod LittleLaws
pub mod BitLaws
pub mod PartLaws
pub mod ZeroLaws
pub mod WordLaws
pub mod RunLaws
