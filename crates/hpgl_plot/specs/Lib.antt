-- What a reader must believe: places, paths and what holds before a step, strokes, notes and refusals.
pub mod OnPage
pub mod Frames
pub mod Paths
pub mod States
pub mod Notes
pub mod Inks
pub mod Strokes
pub mod Drawings
pub mod Laws
-- What contracts of private functions need.
pub mod Bounds
pub mod Unique
pub mod Machine
