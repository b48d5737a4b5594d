-- How bytes in base64, sums, and the dots of rows follow one another.
pub mod BitLaws
pub mod LetterLaws
pub mod RowLaws
mod Examples
