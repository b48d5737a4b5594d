-- What holds of dashes.
use Rattle.std.specs.Prelude.{◌≤ℤ◌, Option}
use Rattle.std.specs.List.{All}
use Rattle.exact.specs.declared.spot.Spot.{Spot}
use Rattle.line_types.specs.declared.run.Run.{Run}
use Rattle.line_types.specs.LineTypes.{LineShape, dashes_of}

-- a place is in the box of two corners, the lower left one first
pub record IsInBox (low high s : Spot) : Type 0 where
  pub left : low.x ≤ℤ s.x
  pub right : s.x ≤ℤ high.x
  pub below : low.y ≤ℤ s.y
  pub above : s.y ≤ℤ high.y

abbrev pub IsDashInBox : Spot → Spot → Spot × Spot → Type 0
IsDashInBox low high d = IsInBox low high d.0 × IsInBox low high d.1

-- the dashes of a line stay in every box that both its ends are in
abbrev pub DashesStay : Type 0
DashesStay = (shape : LineShape) (run : Option Run) (low high a b : Spot) → IsInBox low high a → IsInBox low high b
    → All (IsDashInBox low high) (dashes_of shape run a b)
