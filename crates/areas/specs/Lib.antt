-- What a reader must believe: which places are inside an area, and which strokes are the edges of areas.
pub mod Inside
pub mod Shapes
pub mod Insides
pub mod Views
pub mod Laws
-- What contracts need: where a row passes edges, which of its columns are inside, and what a sweep over rows keeps.
pub mod Crossings
pub mod Sweeps
pub mod Cuts
pub mod Places
pub mod Unique
-- Which shapes a walk has not come to yet.
pub mod Walks
