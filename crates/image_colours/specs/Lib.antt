-- What a reader must believe: how dots are coded, palettes, and the colour of a dot.
pub mod Bits
pub mod Counts
pub mod Codings
pub mod Palettes
pub mod Dots
pub mod Laws
