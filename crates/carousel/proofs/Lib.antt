pub mod Empty
pub mod Examples
