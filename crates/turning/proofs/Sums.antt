-- Turns one after another.
use Rattle.std.proofs.Common.{◌≡◌, ℤ, ◌-ℤ◌, refl, arith}
use Rattle.std.proofs.lemmas.Int.{ints}
use Rattle.directions.specs.declared.turn.Turn.{Turn}
use Rattle.directions.specs.declared.turn.Turn.TheVariants.{None, Quarter, Half, ThreeQuarters}
use Rattle.exact.specs.declared.spot.Spot.{Spot}
use Rattle.plot_page.specs.declared.page.Page.{Page}
use Rattle.plot_page.specs.declared.window.Window.{Window}
use Rattle.plot_page.specs.Segments.{Segment}
use Rattle.turning.specs.Laws.{QuartersAddUp, quarter_more}
use Rattle.turning.specs.Turns.{turned_page, turned_place, turned_segment, turned_window}

back : (a b : ℤ) → a -ℤ (a -ℤ b) ≡ b
back a b = omega (arith, ints)

pages_add : (turn : Turn) (page : Page) → turned_page Quarter (turned_page turn page) ≡ turned_page (quarter_more turn) page
pages_add None page = refl
pages_add Quarter page = refl
pages_add Half page = refl
pages_add ThreeQuarters page = refl

places_add : (turn : Turn) (page : Page) (p : Spot)
    → turned_place Quarter (turned_page turn page) (turned_place turn page p) ≡ turned_place (quarter_more turn) page p
places_add None page p = refl
places_add Quarter page p = refl
places_add Half page p = simp back refl
places_add ThreeQuarters page p = simp back refl

windows_add : (turn : Turn) (page : Page) (w : Window)
    → turned_window Quarter (turned_page turn page) (turned_window turn page w) ≡ turned_window (quarter_more turn) page w
windows_add None page w = refl
windows_add Quarter page w = refl
windows_add Half page w = simp back refl
windows_add ThreeQuarters page w = simp back refl

pub strokes_add : (turn : Turn) (page : Page) (s : Segment)
    → turned_segment Quarter (turned_page turn page) (turned_segment turn page s) ≡ turned_segment (quarter_more turn) page s
strokes_add None page s = refl
strokes_add Quarter page s = refl
strokes_add Half page s = simp back refl
strokes_add ThreeQuarters page s = simp back refl

pub quarters_add_up : QuartersAddUp
quarters_add_up = record { pages = pages_add; places = places_add; windows = windows_add; strokes = strokes_add }
