pub mod Frame
pub mod Line
pub mod Bounds
pub mod Laws
