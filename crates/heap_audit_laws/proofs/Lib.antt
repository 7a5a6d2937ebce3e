pub mod MatchLaws
pub mod BitsLaws
pub mod WalkLaws
pub mod TurnLaws
pub mod RunLaws
