pub mod Cuts
pub mod Bounds
pub mod Ranges
pub mod Numbers
pub mod ColourDigits
pub mod ColourNames
pub mod Given
mod ListExamples
