-- What a reader must believe: the bytes of an SVG document, and what its paths and its titles show.
pub mod Documents
pub mod Sheets
pub mod Sections
pub mod Views
pub mod Images
pub mod Parts
pub mod Titles
pub mod Paths
pub mod Commands
pub mod Places
pub mod Clips
pub mod Numbers
pub mod Readings
pub mod Reader
-- What contracts of private functions need.
pub mod Steps
