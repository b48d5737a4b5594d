pub mod Sets
pub mod WrittenLaw
pub mod Examples
