-- What a reader must believe: what the numbers of the further instructions ask for, line types, widths of pens, sets of
-- characters and fonts, letters of labels, ticks, P1 and P2 on a page, ranges of colours, curves, polygons, fills, and how strokes show.
pub mod LineStyles
pub mod LineParameters
pub mod Widths
pub mod WidthParameters
pub mod Percentages
pub mod LetterParameters
pub mod CharacterParameters
pub mod Characters
pub mod Letters
pub mod CharacterMoves
pub mod TickParameters
pub mod RelativePoints
pub mod ColourRanges
pub mod CurveParameters
pub mod UserMoves
pub mod PolygonParameters
pub mod FillParameters
pub mod InkParameters
pub mod FurtherRequests
