mod LineExamples
mod LetterExamples
mod CharacterExamples
mod SettingExamples
mod InkExamples
mod UserExamples
pub mod UserMoves
pub mod Gaps
pub mod WidthTables
pub mod Shares
pub mod FirstNumbers
