pub mod Map
pub mod Shadows
pub mod Block
pub mod Reading
pub mod Call
pub mod Gap
pub mod Origins
