-- What a reader must believe: how far images reach, and where they lie when their page is fitted or turned.
pub mod Extents
pub mod Moves
pub mod Turns
