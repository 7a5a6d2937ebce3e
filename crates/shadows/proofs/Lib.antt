pub mod ShadowLaws
pub mod LookLaws
pub mod TotalLaws
pub mod ByteLaws
pub mod OwnLaws
