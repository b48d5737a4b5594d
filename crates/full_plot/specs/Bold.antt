-- Letters of bold fonts (HP-GL/2 guide: SD and AD, kind 6): their strokes are twice as wide as the pen. That no stroke is wider
-- than a pen may be is our choice.
use Rattle.std.specs.Prelude.{ℕ, ◌*◌, min, Bool, true, false, List, [], ◌∷◌, map, Option, Some, None, if◌then◌else◌}
use Rattle.exact.specs.declared.spot.Spot.{Spot}
use Rattle.plot_page.specs.Segments.{Segment}
use Rattle.plot_page.specs.declared.stroke.TheConstants.{GREATEST_WIDTH}
use Rattle.hpgl_plot.specs.Machine.{World, followed, travelled_all, with_strokes}
use Rattle.hpgl_plot.specs.Strokes.{are_in_range, joined}

abbrev pub bold_width : ℕ → ℕ
bold_width width = min (2 * width) GREATEST_WIDTH

abbrev pub bolder : Segment → Segment
bolder s = record s { width = bold_width s.width }

-- a line of a bold letter, drawn whether the pen is down or not: None if a place is out of range
abbrev pub bold_line : World → List Spot → Option World
bold_line w places =
    if are_in_range w.range places then Some (with_strokes w w.state (map bolder (joined w.state places))) else None

abbrev pub bold_lines : World → List (List Spot) → Option World
bold_lines w [] = Some w
bold_lines w (l ∷ ls) = followed (bold_line w l) (λ (v : World). bold_lines v ls)

-- the lines of letters
abbrev pub letter_lines : Bool → World → List (List Spot) → Option World
letter_lines true w ls = bold_lines w ls
letter_lines false w ls = travelled_all w true ls
