-- Lemmas and worked examples.
pub mod Beside
pub mod Moved
pub mod Pages
pub mod ShapeCounts
mod FitExamples
mod InsideBoxes
mod Seen
mod ShapeExamples
