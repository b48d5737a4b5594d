-- What a reader must believe: the bytes of each form.
pub mod Inks
pub use Rattle.bit_rows.specs.Bits
pub mod Marks
pub mod Pcl
pub mod Forms
-- What the other public clauses and the laws cite: the buffer, and what the bytes say of the cells.
pub mod Rooms
pub mod Laws
-- What contracts of private functions need.
pub mod Spans
