-- What a reader must believe: what the numbers of instructions set, the steps of items, and what holds before a step.
pub mod Parameters
pub mod Colours
pub mod Meanings
pub mod Settings
pub mod Slants
pub mod Laws
-- What contracts need: the ranges of what is set, which instructions make moves, and what they ask for.
pub mod Bounds
pub mod Pairs
pub mod Requests
