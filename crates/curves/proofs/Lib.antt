pub mod Products
pub mod Units
pub mod VectorLemmas
pub mod Centres
pub mod Places
pub mod Betweens
pub mod Aboves
pub mod Alongs
pub mod Sides
pub mod Passing
pub mod ArcLaws
pub mod BezierLaws
mod ArcExamples
mod BezierExamples
