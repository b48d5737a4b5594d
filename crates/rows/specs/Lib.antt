-- What a reader must believe: the picture of strokes, and that of strokes and images.
pub mod Pictures
pub mod Contents
pub mod ImageCells
pub mod ImagePictures
-- What the other public clauses cite: where a picture stopped, tests, faults, watchers, palettes, PNGs.
pub mod Faults
pub mod Inks
pub mod Stops
pub mod Boxes
pub mod Palettes
pub mod Watching
pub mod Documents
-- What contracts of private functions need.
pub mod Progress
pub mod ImageSmoothing
pub mod Layouts
pub mod PixelRows
pub mod Known
