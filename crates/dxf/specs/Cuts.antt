-- The part of the centre line of a stroke that is in its window. Its ends and the edges of the window are included.
use Rattle.std.specs.Prelude.{◌*◌, max, nat_lt, not, ◌&&◌, Bool, true, false, ℤ, pos, int_lt, ◌+ℤ◌, ◌-ℤ◌, ◌*ℤ◌, nat_abs, Option, Some, None, if◌then◌else◌}
use Rattle.exact.specs.Fraction.{quotient, round}
use Rattle.exact.specs.Ranges.{is_between}
use Rattle.plot_page.specs.Segments.{Segment}
use Rattle.plot_page.specs.declared.window.Window.{Window}
use Rattle.dxf.specs.Groups.{in_parts}
use Rattle.dxf.specs.declared.cuts.Point.{Point}
use Rattle.dxf.specs.declared.cuts.Line.{Line}
use Rattle.dxf.specs.declared.cuts.Share.{Share}
use Rattle.dxf.specs.declared.cuts.Side.{Side}
use Rattle.dxf.specs.declared.cuts.Span.{Span}

-- a place of the page, in grains, as a point of the document, in parts
abbrev pub point_of : ℤ → ℤ → Point
point_of x y = record { x = in_parts x; y = in_parts y }

-- a window holds a place
abbrev pub holds : Window → ℤ → ℤ → Bool
holds w x y = is_between w.x0 w.x1 x && is_between w.y0 w.y1 y

-- the window cuts nothing of a stroke
abbrev pub is_whole : Segment → Bool
is_whole s = holds s.window s.ax s.ay && holds s.window s.bx s.by

-- one share of the way along a stroke is less than another
abbrev pub is_before : Share → Share → Bool
is_before a b = nat_lt (a.over * b.under) (b.over * a.under)

abbrev pub earlier : Share → Share → Share
earlier a b = if is_before b a then b else a

abbrev pub later : Share → Share → Share
later a b = if is_before a b then b else a

-- the size of q over the size of p
abbrev pub share_of : Side → Share
share_of e = record { over = nat_abs e.q; under = nat_abs e.p }

-- from the first end of a stroke to the other one
abbrev pub whole_way : Span
whole_way = record { from = record { over = 0; under = 1 }; to = record { over = 1; under = 1 }; is_seen = true }

-- the part of a span that is on the inner side of an edge of a window: the shares t with p t ≤ q
abbrev pub narrowed : Side → Span → Span
narrowed e span =
    if int_lt e.q (pos 0) then
    (if int_lt e.p (pos 0) then record span { from = later span.from (share_of e) } else record span { is_seen = false })
    else if int_lt (pos 0) e.p then record span { to = earlier span.to (share_of e) } else span

-- where the four edges of its window cut a stroke
abbrev pub left_side : Segment → Side
left_side s = record { p = s.ax -ℤ s.bx; q = s.ax -ℤ s.window.x0 }

abbrev pub right_side : Segment → Side
right_side s = record { p = s.bx -ℤ s.ax; q = s.window.x1 -ℤ s.ax }

abbrev pub lower_side : Segment → Side
lower_side s = record { p = s.ay -ℤ s.by; q = s.ay -ℤ s.window.y0 }

abbrev pub upper_side : Segment → Side
upper_side s = record { p = s.by -ℤ s.ay; q = s.window.y1 -ℤ s.ay }

-- the part of a stroke that is in its window
abbrev pub span_of : Segment → Span
span_of s =
    narrowed (upper_side s) (narrowed (lower_side s) (narrowed (right_side s) (narrowed (left_side s) whole_way)))

-- a span holds a place
abbrev pub is_open : Span → Bool
is_open span = span.is_seen && not (is_before span.to span.from)

-- the share, times its divisor, of the way from a to b, from 0 on
abbrev pub weighted : ℤ → ℤ → Share → ℤ
weighted a b t = a *ℤ pos t.under +ℤ (b -ℤ a) *ℤ pos t.over

-- a coordinate after a share of the way from a to b, rounded to a whole part; the upper one of two that are as near
abbrev pub coordinate_at : ℤ → ℤ → Share → ℤ
coordinate_at a b t =
    round (quotient (in_parts (weighted a b t)) (pos (max t.under 1)))

abbrev pub point_at : Segment → Share → Point
point_at s t = record { x = coordinate_at s.ax s.bx t; y = coordinate_at s.ay s.by t }

abbrev pub own_line : Segment → Line
own_line s = record { from = point_of s.ax s.ay; to = point_of s.bx s.by }

abbrev pub cut_line : Segment → Span → Option Line
cut_line s span = if is_open span then Some (record { from = point_at s span.from; to = point_at s span.to }) else None

-- what is seen of the centre line of a stroke: all of it, a part, or nothing
abbrev pub line_of : Segment → Option Line
line_of s = if is_whole s then Some (own_line s) else cut_line s (span_of s)
