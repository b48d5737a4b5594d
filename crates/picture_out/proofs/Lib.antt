pub mod Spans
pub mod Lines
pub mod Tables
pub mod Bytes
pub mod Lanes
pub mod Packed
pub mod Coloured
pub mod Sizes
pub mod Shown
mod Examples
