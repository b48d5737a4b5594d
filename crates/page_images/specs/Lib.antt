-- What a reader must believe: where images of a plot lie on its page, and among which strokes.
pub mod Frames
pub mod PageImages
pub mod Views
