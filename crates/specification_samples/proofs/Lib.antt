pub mod Samples
pub mod MapSamples
pub mod DeskExample
pub mod FileSamples
pub mod OriginsSamples
