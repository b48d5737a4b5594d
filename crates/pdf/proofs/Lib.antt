pub mod Contained
pub mod AddedObjects
pub mod AddedPages
pub mod Lists
pub mod DrawnPens
pub mod Contents
pub mod ContentLaw
pub mod ContentReads
pub mod OperatorTexts
pub mod ReadRuns
pub mod Offsets
pub mod ReadTexts
pub mod LetterTexts
pub mod LabelLists
pub mod FontLists
pub mod Marks
mod Examples
mod ReaderExamples
