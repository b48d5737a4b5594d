-- What a reader must believe: styles, where cells and letters are, and the strokes and the end of a label.
pub mod Styles
pub mod Cells
pub mod Columns
pub mod Letters
pub mod Labels
pub mod UserCharacters
pub mod Lines
-- What contracts need: bounds of the arithmetic, the strokes that are left of a label, the texts whose labels are the
-- stick font's, and the law of labels.
pub mod Bounds
pub mod Left
pub mod CoreTexts
pub mod Laws
