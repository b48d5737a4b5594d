mod Examples
pub mod LastShapes
pub mod Extents
