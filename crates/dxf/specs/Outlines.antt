-- Areas whose edges lead round closed polygons, as those of plots do, and chains that end where they began.
use Rattle.std.specs.Prelude.{◌≡◌, ℕ, true, List, flat_map}
use Rattle.std.specs.List.{All}
use Rattle.areas.specs.Laws.{AreRound}
use Rattle.areas.specs.Shapes.{Shape, edges_of}
use Rattle.areas.specs.declared.area.Area.{Area}
use Rattle.plot_page.specs.Segments.{Segment}
use Rattle.plot_page.specs.declared.colour.Colour.{Colour}
use Rattle.dxf.specs.Chains.{Chain}
use Rattle.dxf.specs.Entities.{last_of}

-- edges of one pen and one colour that lead round closed polygons
pub record IsOutline (edges : List Segment) : Type 0 where
  pub pen : ℕ
  pub colour : Colour
  pub alike : All (λ e. (e.pen ≡ pen) × (e.colour ≡ colour)) edges
  pub round : AreRound edges

-- those of each area are so
abbrev pub AreOutlined : List Segment → List Area → Type 0
AreOutlined strokes areas = All (λ a. IsOutline (edges_of strokes a)) areas

-- the strokes of shapes, and the edges of areas, in order
abbrev pub strokes_in : List Shape → List Segment
strokes_in shapes = flat_map (λ shape. shape.strokes) shapes

-- a chain that is closed ends where it began
abbrev pub EndsWhereItBegan : Chain → Type 0
EndsWhereItBegan c = c.first.is_closed ≡ true → (last_of c.first c.others).to ≡ c.first.from
