-- What a reader must believe: the size that a plot asks for.
pub mod Sizes
-- What contracts of private functions need.
pub mod Measures
