-- What a reader must believe: what was put into a text, and what the sink has of it in the end; thousandths as text; and how
-- numbers are read.
pub mod Texts
pub mod Fractions
pub mod Readings
