-- What a reader must believe: the polygon buffer, and the lines that fill polygons.
pub mod Buffers
pub mod Fills
pub mod Laws
-- What contracts need: bounds of the arithmetic, what a buffer counts, and how code goes from line to line.
pub mod Bounds
pub mod Held
pub mod Climbs
pub mod Sweeps
