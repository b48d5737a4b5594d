-- What a reader must believe: the places of arcs and of Bezier curves.
pub mod Vectors
pub mod Arcs
pub mod Beziers
-- What contracts need: laws, and bounds of the arithmetic.
pub mod Laws
pub mod Bounds
