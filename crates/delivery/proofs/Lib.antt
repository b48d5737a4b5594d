pub mod DeedLemmas
pub mod Delivered
pub mod Folders
pub mod Looking
pub mod Examples
