-- What a reader must believe.
pub mod Places
pub mod Settings
pub mod Rows
pub mod Lengths
pub mod Images
pub mod Machines
pub mod Positions
pub mod Dots
pub mod Laws
-- What contracts of private functions need: what the code's types stand for.
pub mod Views
