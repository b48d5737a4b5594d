pub mod StrokeBounds
