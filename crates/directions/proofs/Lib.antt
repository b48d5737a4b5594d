pub mod Lengths
pub mod Axes
mod Examples
