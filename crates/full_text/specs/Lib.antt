-- What a reader must believe: which language is read, the cut, and what holds of it.
pub mod Languages
pub mod Cut
pub mod Laws
-- What views of types and contracts of the code need.
pub mod Left
pub mod Seen
