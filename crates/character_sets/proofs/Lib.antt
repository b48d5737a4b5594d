pub mod SignCounts
pub mod AsciiSigns
pub mod Examples
pub mod Sequences
