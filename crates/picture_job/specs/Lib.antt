-- How much finer a picture may be painted, how many pixels it has, and whether a document has labels as texts.
pub mod Smoothings
pub mod Sizes
pub mod LabelChoices
-- Laws.
pub mod Laws
