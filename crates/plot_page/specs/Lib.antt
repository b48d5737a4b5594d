-- What a reader must believe: which colour is white, how many pixels a page has, sets of pens, and the strokes that are painted.
pub mod Colours
pub mod Resolutions
pub mod Pens
pub mod Segments
-- What the other clauses cite: the ranges of pages, of resolutions and of strokes.
pub mod Pages
pub mod Strokes
