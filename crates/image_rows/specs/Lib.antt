-- What a reader must believe: what the data of a row say, and the row that they make.
pub mod Compressions
pub mod Changes
pub mod Rows
pub mod Endings
pub mod Laws
-- What contracts of private functions need: what the code's types stand for, and rows on the way.
pub mod Views
