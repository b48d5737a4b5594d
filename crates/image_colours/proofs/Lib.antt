mod ColourExamples
pub mod Indices
pub mod DotLaws
