mod BufferExamples
mod FillExamples
pub mod Tests
pub mod Floors
pub mod Heights
pub mod Shares
pub mod Ends
pub mod Totals
pub mod Orders
pub mod OnLines
pub mod Bits
pub mod Collected
pub mod Sorts
pub mod Gaps
pub mod Begins
pub mod Numbers
pub mod Steps
mod Stays
pub mod BufferLaws
pub mod SolidLaws
