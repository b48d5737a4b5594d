pub mod SettingRanges
pub mod Leading
pub mod Moved
pub mod PenTables
mod Examples
