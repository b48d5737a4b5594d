pub mod Polylines
pub mod Strokes
pub mod Tables
pub mod FontLaws
pub mod Examples
pub mod Shares
mod LabelExamples
