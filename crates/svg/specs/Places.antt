-- Places and rectangles of an SVG document, in grains (1/16 plotter unit) from the left upper corner of the page: y grows
-- downward.
use Rattle.std.specs.Prelude.{ℤ, pos, ◌-ℤ◌, ◌+ℤ◌, ◌*◌, ◌≤◌, nat_abs}
use Rattle.plot_page.specs.Segments.{Segment}
use Rattle.plot_page.specs.declared.page.Page.{Page}
use Rattle.plot_page.specs.declared.window.Window.{Window}
use Rattle.svg.specs.declared.places.Place.{Place}
use Rattle.svg.specs.declared.places.Rectangle.{Rectangle}

-- a y of the page, which grows upward, from the upper edge downward; and back
abbrev pub turned : Page → ℤ → ℤ
turned page y = pos (16 * page.height) -ℤ y

abbrev pub place_of : Page → ℤ → ℤ → Place
place_of page x y = record { x = x; y = turned page y }

-- where a stroke begins, and where it ends
abbrev pub start_of : Page → Segment → Place
start_of page s = place_of page s.ax s.ay

abbrev pub end_of : Page → Segment → Place
end_of page s = place_of page s.bx s.by

-- how far it is from one place to another, and the place that lies so far from another
abbrev pub offset : Place → Place → Place
offset from to = record { x = to.x -ℤ from.x; y = to.y -ℤ from.y }

abbrev pub moved : Place → Place → Place
moved from by = record { x = from.x +ℤ by.x; y = from.y +ℤ by.y }

-- within 2^28 grains of the corner
abbrev pub IsNear : Place → Type 0
IsNear p = (nat_abs p.x ≤ 268435456) × (nat_abs p.y ≤ 268435456)

-- a window as a rectangle
abbrev pub rectangle_of : Page → Window → Rectangle
rectangle_of page w =
    record { x = w.x0; y = turned page w.y1; width = w.x1 -ℤ w.x0; height = w.y1 -ℤ w.y0 }
