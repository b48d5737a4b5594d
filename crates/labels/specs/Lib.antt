-- What a reader must believe: labels, which of them are on a sheet, and where they are moved.
pub mod Labels
pub mod Sheets
pub mod Moves
