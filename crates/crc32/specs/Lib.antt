-- What a reader must believe: the checksum.
pub mod Crc
-- What the other public clauses cite: a checksum so far.
pub mod Pieces
