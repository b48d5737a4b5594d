-- What a reader must believe: sines, turns and the ends of chords.
pub mod Arcs
-- What contracts need: what a sine is, laws, and bounds of the arithmetic.
pub mod SineBounds
pub mod Laws
pub mod Bounds
