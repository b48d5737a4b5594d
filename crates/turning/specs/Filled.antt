-- What an area covers after a turn. Places are in grains divided by the resolution r.
use Rattle.std.specs.Prelude.{◌≡◌, ℕ, ◌≤◌, Bool, false, ◌&&◌, ◌||◌, List, map, pos}
use Rattle.std.specs.List.{list_any}
use Rattle.areas.specs.Inside.{is_inside_area}
use Rattle.areas.specs.Laws.{AreRound}
use Rattle.directions.specs.declared.turn.Turn.{Turn}
use Rattle.plot_page.specs.declared.page.Page.{Page}
use Rattle.plot_page.specs.declared.window.Window.{Window}
use Rattle.plot_page.specs.Segments.{Segment}
use Rattle.polygons.specs.declared.lines.Rule.{Rule}
use Rattle.stroke_raster.specs.Covers.{first_end, in_window, is_gap_met, last_end}
use Rattle.stroke_raster.specs.Gap.{gap_met, scaled, way}
use Rattle.stroke_raster.specs.declared.vector.Vector.{Vector}
use Rattle.turning.specs.Pictures.{turned_point}
use Rattle.turning.specs.Turns.{turned_segment, turned_window}

-- a place is on an edge
abbrev pub is_on : ℕ → Vector → Segment → Bool
is_on r p e = let a = scaled (pos r) (first_end e) in gap_met (way a (scaled (pos r) (last_end e))) (way a p) 0

-- an area that is seen in a window covers a place: it is inside, or within half of the drawn width of an edge
abbrev pub area_covers : Rule → Window → List Segment → ℕ → Vector → Bool
area_covers rule w edges r p =
    in_window w r p && (list_any (λ e. is_gap_met e r p) edges || is_inside_area rule r edges p.x p.y)

-- a place on no edge of closed polygons is inside after the turn if and only if it was before. A place on an edge may differ in
-- this, but is covered anyway
pub record TurnedAreasCover : Type 0 where
  pub insides : (turn : Turn) (page : Page) (rule : Rule) (r : ℕ) (edges : List Segment) (p : Vector) →
      1 ≤ r → AreRound edges → list_any (is_on r p) edges ≡ false →
      is_inside_area rule r (map (turned_segment turn page) edges) (turned_point turn page r p).x (turned_point turn page r p).y
      ≡ is_inside_area rule r edges p.x p.y
  pub covered : (turn : Turn) (page : Page) (rule : Rule) (r : ℕ) (w : Window) (edges : List Segment) (p : Vector) →
      1 ≤ r → AreRound edges →
      area_covers rule (turned_window turn page w) (map (turned_segment turn page) edges) r (turned_point turn page r p)
      ≡ area_covers rule w edges r p
