mod RowExamples
pub mod LongNumbers
pub mod Fitted
pub mod Proper
pub mod Steps
pub mod Written
pub mod Loops
pub mod Agrees
pub mod RowLaws
