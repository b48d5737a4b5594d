-- What a reader must believe: how pixels are packed into bits.
pub mod Bits
