pub mod Polylines
pub mod Sorted
pub mod Tables
pub mod FontLaws
pub mod Different
pub mod Examples
