-- What a reader must believe: which texts are lists of pens, and which pens they list; what lists of colours and of
-- widths give the pens.
pub mod Lists
pub mod Assignments
pub mod Colours
pub mod Widths
