pub mod AtLaws
pub mod PlainLaws
pub mod PointerLaws
