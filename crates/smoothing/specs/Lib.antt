-- What a reader must believe: the pixels of a smoothed picture.
pub mod Smoothings
-- What the public clauses cite beside it.
pub mod Cells
pub mod Rows
-- What contracts of private functions need.
pub mod Totals
