-- What a reader must believe: how items are read by what was set before them, and what is noted on them.
pub mod Contexts
pub mod Notes
