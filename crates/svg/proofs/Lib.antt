pub mod BytesLaw
pub mod ClipLaw
pub mod ClipNames
pub mod ClipReads
pub mod Counts
pub mod DocumentReads
pub mod EachPath
pub mod ImageTexts
pub mod PartLaws
pub mod PartReads
pub mod PathReads
pub mod ReadLaw
pub mod SheetTexts
pub mod SheetTitles
pub mod Texts
pub mod TitleReads
pub mod TitleTexts
mod Examples
mod LabelExamples
mod ReaderExamples
