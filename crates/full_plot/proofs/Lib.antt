pub mod PlotExamples
mod ImageExamples
mod UserExamples
mod PenExamples
mod FillExamples
mod InkExamples
pub mod WidthTables
pub mod Kept
pub mod DrawnLines
pub mod Solid
pub mod LinesAlong
pub mod Curved
pub mod FullRuns
pub mod BoldLines
pub mod HeldPolygons
pub mod Changes
pub mod FullChanges
pub mod Nexts
pub mod JoinedSheets
pub mod AreasInOrder
pub mod BesideAreas
pub mod AreasHave
pub mod AlikeEdges
pub mod Aside
pub mod RoundEdges
mod FittingSteps
pub mod Later
pub mod RoundAreas
pub mod OrderedLabels
pub mod BesideLabels
pub mod LabelsOver
pub mod CoreNotes
pub mod CoreLabels
pub mod AsInCore
pub mod CoreSteps
pub mod Stills
pub mod CorePlots
pub mod Wider
mod BadItems
mod Traced
mod Undrawn
pub mod UserSteps
mod Restarts
pub mod GatheredImages
pub mod CarriedPlaces
pub mod AfterRequests
pub mod AskedCommands
pub mod ToldEscapes
pub mod Finished
