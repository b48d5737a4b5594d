pub mod Summaries
pub mod Table
pub mod PenLines
pub mod Lengths
pub mod Walk
pub mod Plain
mod ReportExamples
mod AreaExamples
mod ImageExamples
