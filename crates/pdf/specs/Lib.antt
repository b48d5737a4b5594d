-- What a reader must believe: the bytes of a PDF document.
pub mod Documents
pub mod Objects
pub mod Contents
pub mod Texts
pub mod Operators
pub mod Numbers
pub mod Units
-- What the laws say: what the operators of a content draw, and which texts they show.
pub mod Laws
pub mod Readings
pub mod TextReadings
pub mod ContentReader
-- What contracts of private functions need.
pub mod RunTexts
pub mod Steps
pub mod TextSteps
pub mod Contained
pub mod Writings
pub mod Ranges
