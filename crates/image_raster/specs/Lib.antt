-- What a reader must believe: which dots of images lie at pixels of a page, and what pixels show with images among strokes.
pub mod Dots
pub mod Cells
pub mod Laws
-- What contracts of private functions need.
pub mod Placed
pub mod Ways
