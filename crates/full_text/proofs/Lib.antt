pub mod Steps
mod Plain
mod Apart
mod Scans
mod Examples
