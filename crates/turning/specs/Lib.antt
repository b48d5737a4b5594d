-- What a reader must believe: where places, windows, strokes and labels lie on a page that is turned.
pub mod Turns
-- What the laws say.
pub mod Laws
pub mod Pictures
pub mod Filled
pub mod Shapes
