-- How images reach.
pub mod Counted
pub mod Rows
