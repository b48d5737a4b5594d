mod NoteExamples
pub mod ReadNumbers
pub mod Noted
pub mod FewNotes
