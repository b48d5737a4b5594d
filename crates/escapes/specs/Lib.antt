-- What a reader must believe: commands, the escapes that are made of them, and what holds of these.
pub mod Commands
pub mod Escapes
pub mod Laws
-- What contracts of the code need: what its types stand for.
pub mod Views
