mod Examples
pub mod Totals
pub mod Rows
