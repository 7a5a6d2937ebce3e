pub mod LineSame
pub mod AlikeSame
pub mod PlainSame
pub mod OriginsSame
pub mod Programs
pub mod Samples
