-- What turned strokes are made of.
pub mod Turned
-- One turn after another, and what turns keep.
pub mod Sums
pub mod Kept
-- What a page shows after a turn.
pub mod Grids
pub mod Shown
-- The same of areas.
pub mod Signs
pub mod Edges
pub mod Untouched
pub mod EdgeTurns
pub mod PolygonTurns
pub mod AreaTurns
-- And of strokes with areas among them.
pub mod LastOnes
pub mod ShapesTurned
mod Examples
