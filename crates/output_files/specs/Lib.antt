-- What a reader must believe: the names of files, and which of them a run does not write.
pub mod Names
pub mod Claims
pub mod Written
