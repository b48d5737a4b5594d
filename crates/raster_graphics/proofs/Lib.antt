mod MachineExamples
pub mod Lines
pub mod Lengths
pub mod ImageDots
pub mod Positions
pub mod RoomLaws
pub mod OrderLaws
