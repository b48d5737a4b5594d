-- What a reader must believe: the numbers of sets, the characters of their bytes, the signs of a text by sets, sequences
-- of UTF-8, and the signs of a text as the user says.
pub mod Numbers
pub mod CodePoints
pub mod Signs
pub mod Utf8
pub mod Texts
-- What contracts need: the signs that are left of a text, how ASCII is read, and the laws of signs.
pub mod Left
pub mod Ascii
pub mod Laws
