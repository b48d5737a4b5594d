-- What a reader must believe: values, what commands ask, which numbers requests may have, and what holds of them.
pub mod Values
pub mod Images
pub mod Places
pub mod Requests
pub mod Ranges
pub mod Laws
