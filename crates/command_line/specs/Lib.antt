-- What a reader must believe: the command, its defaults, the papers, forms, sheets, characters, labels and turns that it
-- names, what its matches ask for, what is wrong with them, and exit statuses.
pub mod Defaults
pub mod Options
pub mod Papers
pub mod Forms
pub mod Sheets
pub mod Characters
pub mod LabelChoices
pub mod Turns
pub mod Faults
pub mod Lines
pub mod Statuses
-- What a parse gives.
pub mod Parses
-- What only contracts of private functions need: what a faultless parse leaves to be read, and the code's table.
pub mod Readings
pub mod Tables
