pub mod Resolutions
