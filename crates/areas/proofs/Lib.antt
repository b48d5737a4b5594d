pub mod Apart
pub mod Boxes
mod Counts
mod Descent
mod Directions
mod Examples
pub mod Gathered
mod Live
pub mod NextShapes
pub mod Passes
pub mod Ranges
mod Rectangles
mod ShapeExamples
mod Sides
mod Sweeping
pub mod SweptEdges
pub mod Turns
