-- What a reader must believe: directions, turns and swings.
pub mod Directions
-- What contracts need: the laws of directions, and bounds of the arithmetic.
pub mod Laws
pub mod Bounds
