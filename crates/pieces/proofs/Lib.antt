pub mod Texts
pub mod Scans
mod Examples
mod ReadExamples
