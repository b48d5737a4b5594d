pub mod Beside
mod Examples
pub mod Lists
pub mod Reaches
pub mod Sizes
pub mod Turned
mod UserExamples
