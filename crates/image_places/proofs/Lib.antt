-- What functions of strokes say of a frame.
pub mod Frames
