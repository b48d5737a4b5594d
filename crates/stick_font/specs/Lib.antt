-- What a reader must believe: the strokes of characters, the cells of a label, and its points and strokes.
pub mod Glyphs
pub mod Labels
-- What contracts need: the laws of the font, the next cell, and bounds of the arithmetic.
pub mod Laws
pub mod Bounds
