-- What a reader must believe: how far strokes and areas are seen, the page around them, and how they are moved to it.
pub mod Extents
pub mod Around
pub mod Moves
pub mod Census
pub mod Shapes
pub mod Laws
pub mod ShapeLaws
