-- What the contracts of the examples cite, beside the library's definitions.
pub mod Bitmaps
pub mod Drafts
pub mod Previews
pub mod Refusals
