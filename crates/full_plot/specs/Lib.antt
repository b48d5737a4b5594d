-- What a reader must believe: what is set, how lines are drawn in line types, polygons and wedges, fills, labels, curves,
-- sheets and images, the steps of items, what plots draw and what is noted on them, and that plots of core stay as they are.
pub mod Worlds
pub mod Work
pub mod Dashing
pub mod Inks
pub mod Lines
pub mod Polygons
pub mod Wedges
pub mod UserCharacters
pub mod Fills
pub mod Bold
pub mod Texts
pub mod Curves
pub mod Sheets
pub mod Commands
pub mod Machine
pub mod Items
pub mod Drawings
pub mod Labels
pub mod Noted
pub mod Laws
-- What contracts of private calls need: the context after an instruction, and ranges.
pub mod ContextsAfter
pub mod Fillings
pub mod Inking
