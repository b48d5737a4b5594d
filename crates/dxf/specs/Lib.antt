-- What a reader must believe: the bytes of a DXF document.
pub mod Documents
pub mod Parts
pub mod Entities
pub mod Chains
pub mod Cuts
pub mod Letters
pub mod Forms
pub mod Angles
pub mod Layers
pub mod Colours
pub mod Groups
-- What a reader finds in a document.
pub mod Reader
pub mod Readings
pub mod Outlines
-- What contracts of private functions need.
pub mod Steps
pub mod Readable
