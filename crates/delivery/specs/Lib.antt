-- What a run does with files, in order, and which of it is allowed.
pub mod Deeds
pub mod Care
pub mod Deliveries
pub mod Folders
pub mod Messages
pub mod Looks
pub mod Runs
