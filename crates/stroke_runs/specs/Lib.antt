-- What a reader must believe: which strokes are drawn, their runs, sheets, and how a document shows them.
pub mod Drawn
pub mod Runs
pub mod Sheets
pub mod Shown
-- What strokes are, and how they follow one another, taken one at a time.
pub mod Roles
pub mod Links
-- What the laws say of runs.
pub mod Laws
pub mod Ranges
