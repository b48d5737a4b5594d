-- What holds of turns.
use Rattle.std.specs.Prelude.{◌≡◌, ◌*◌, Bool, true, ◌||◌, ℤ, pos, int_lt, ◌≤ℤ◌}
use Rattle.directions.specs.declared.turn.Turn.{Turn}
use Rattle.directions.specs.declared.turn.Turn.TheVariants.{None, Quarter, Half, ThreeQuarters}
use Rattle.exact.specs.declared.spot.Spot.{Spot}
use Rattle.plot_page.specs.declared.page.Page.{Page}
use Rattle.plot_page.specs.declared.window.Window.{Window}
use Rattle.plot_page.specs.Segments.{Segment}
use Rattle.plot_page.specs.Strokes.{is_far_stroke}
use Rattle.turning.specs.Turns.{is_turnable, turned_page, turned_place, turned_segment, turned_window}

-- a turn, and another quarter
abbrev pub quarter_more : Turn → Turn
quarter_more None = Quarter
quarter_more Quarter = Half
quarter_more Half = ThreeQuarters
quarter_more ThreeQuarters = None

-- a quarter turn after a turn makes a quarter more: two quarters are a half turn, and four are none
pub record QuartersAddUp : Type 0 where
  pub pages : (turn : Turn) (page : Page) → turned_page Quarter (turned_page turn page) ≡ turned_page (quarter_more turn) page
  pub places : (turn : Turn) (page : Page) (p : Spot) →
      turned_place Quarter (turned_page turn page) (turned_place turn page p) ≡ turned_place (quarter_more turn) page p
  pub windows : (turn : Turn) (page : Page) (w : Window) →
      turned_window Quarter (turned_page turn page) (turned_window turn page w) ≡ turned_window (quarter_more turn) page w
  pub strokes : (turn : Turn) (page : Page) (s : Segment) →
      turned_segment Quarter (turned_page turn page) (turned_segment turn page s) ≡ turned_segment (quarter_more turn) page s

-- a window holds no place
abbrev pub holds_nothing : Window → Bool
holds_nothing w = int_lt w.x1 w.x0 || int_lt w.y1 w.y0

abbrev pub EmptyWindowsStayEmpty : Type 0
EmptyWindowsStayEmpty = (turn : Turn) (page : Page) (w : Window) → holds_nothing (turned_window turn page w) ≡ holds_nothing w

-- a place lies on a page
pub record LiesOn (page : Page) (x y : ℤ) : Type 0 where
  pub left : pos 0 ≤ℤ x
  pub below : pos 0 ≤ℤ y
  pub right : x ≤ℤ pos (16 * page.width)
  pub above : y ≤ℤ pos (16 * page.height)

-- both ends of a stroke do, and both corners of its window
pub record LiesWhollyOn (page : Page) (s : Segment) : Type 0 where
  pub low : LiesOn page s.window.x0 s.window.y0
  pub high : LiesOn page s.window.x1 s.window.y1
  pub first : LiesOn page s.ax s.ay
  pub last : LiesOn page s.bx s.by

-- what can be turned is what is a stroke after the turn; all strokes on the page can be
pub record TurnableAreStrokes : Type 0 where
  pub strokes : (turn : Turn) (page : Page) (s : Segment) →
      is_far_stroke s ≡ true → is_far_stroke (turned_segment turn page s) ≡ is_turnable turn page s
  pub on_page : (turn : Turn) (page : Page) (s : Segment) → LiesWhollyOn page s → is_turnable turn page s ≡ true
