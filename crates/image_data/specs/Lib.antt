-- What a reader must believe: images as PNG, and these in base64.
pub mod Base64
pub mod Chunks
pub mod Pngs
pub mod Tiles
