-- What a reader must believe: patterns, lengths, and the dashes of a line.
pub mod Patterns
pub mod Lines
pub mod Dashes
pub mod LineTypes
pub mod Laws
-- What contracts need: bounds of the arithmetic, and the dashes that are left.
pub mod Bounds
pub mod Left
