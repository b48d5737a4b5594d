-- What a reader must believe: the strokes of characters.
pub mod Glyphs
-- What contracts need: the laws of the font, and the places of rows.
pub mod Laws
pub mod Rows
