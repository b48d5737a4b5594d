pub mod PaperSizes
pub mod Lists
pub mod Rules
pub mod Tables
pub mod Uses
pub mod ParseLaw
pub mod CommandLaw
pub mod ReadingLaw
pub mod Given
mod Examples
mod MoreExamples
mod OnWords
