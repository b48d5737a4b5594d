pub mod Near
pub mod Crossing
pub mod InBounds
pub mod Theorems
mod Turned
mod Values
mod SideBounds
mod OnLine
mod OfScaling
mod Examples
