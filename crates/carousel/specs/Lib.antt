-- What a reader must believe: the width and the colour of a pen in a carousel.
pub mod Carousels
