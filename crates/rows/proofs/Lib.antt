mod Examples
mod ImageExamples
mod Smoothed
pub mod Alone
pub mod Pictures
pub mod Faults
mod RowTexts
mod EvenRows
mod BitRows
mod PclRows
mod Potentials
mod Colours
mod PngRows
mod Numbered
mod BitNumbers
mod NumberRows
pub mod SmoothedRows
mod WrittenRows
pub mod Joined
pub mod Watched
mod PixelRows
mod KnownNumbers
mod PixelLayouts
mod ImageCells
mod ImagePictures
mod ImageRows
mod ImageSmoothed
