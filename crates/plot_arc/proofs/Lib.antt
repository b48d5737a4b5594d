pub mod SineRange
pub mod Angles
pub mod Nearest
pub mod Reach
pub mod Short
pub mod SineLaw
mod ArcExamples
