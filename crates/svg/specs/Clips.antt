-- The clip paths of an SVG document.
use Rattle.std.specs.Prelude.{ℕ, List, [], ◌∷◌, ◌++◌, flat_map, Option, Some, None, codes}
use Rattle.std.specs.BTreeSet.{insert_key}
use Rattle.std.specs.Fmt.{signed_decimal}
use Rattle.std.specs.List.{Contains}
use Rattle.std.specs.Ordering.{int_cmp, ordering_then}
use Rattle.std.specs.declared.cmp.Ordering.{Ordering}
use Rattle.plot_page.specs.Segments.{Segment}
use Rattle.plot_page.specs.declared.page.Page.{Page}
use Rattle.plot_page.specs.declared.pens.PenSet.{PenSet}
use Rattle.stroke_runs.specs.Drawn.{drawn}
use Rattle.svg.specs.declared.clip_paths.ClipPaths.{ClipPaths}
use Rattle.svg.specs.declared.places.Rectangle.{Rectangle}
use Rattle.svg.specs.Paths.{clip_name, clip_of}

-- the order of rectangles: by x, then by y, by the width, and by the height
abbrev pub rectangle_cmp : Rectangle → Rectangle → Ordering
rectangle_cmp a b =
    ordering_then (int_cmp a.x b.x)
    (ordering_then (int_cmp a.y b.y) (ordering_then (int_cmp a.width b.width) (int_cmp a.height b.height)))

-- rectangles in order, and one more, unless it is there
abbrev pub with_clip : List Rectangle → Option Rectangle → List Rectangle
with_clip clips None = clips
with_clip clips (Some r) = insert_key rectangle_cmp clips r

-- these, and what strokes are clipped to
abbrev pub with_clips : Page → List Rectangle → List Segment → List Rectangle
with_clips page clips [] = clips
with_clips page clips (s ∷ ss) = with_clips page (with_clip clips (clip_of page s.window)) ss

-- what the strokes that are drawn are clipped to, in order, each rectangle once
abbrev pub clips_of : Page → PenSet → List Segment → List Rectangle
clips_of page pens strokes = with_clips page [] (drawn pens strokes)

-- a path is not clipped, or to one of these
abbrev pub IsAmong : List Rectangle → Option Rectangle → Type 0
IsAmong clips None = Unit {0}
IsAmong clips (Some r) = Contains clips r

-- what was collected
abbrev pub collected : ClipPaths → List Rectangle
collected clips = clips.rectangles.keys

abbrev pub rectangle_text : Rectangle → List ℕ
rectangle_text r =
    codes "<rect x=\"" ++ signed_decimal r.x ++ codes "\" y=\"" ++ signed_decimal r.y ++ codes "\" width=\""
    ++ signed_decimal r.width ++ codes "\" height=\"" ++ signed_decimal r.height ++ codes "\"/>"

-- what lies in a rectangle, under its name
abbrev pub clip_text : Rectangle → List ℕ
clip_text r = codes "<clipPath id=\"" ++ clip_name r ++ codes "\">" ++ rectangle_text r ++ codes "</clipPath>\n"

abbrev pub clips_text : List Rectangle → List ℕ
clips_text [] = []
clips_text (r ∷ rs) = codes "<defs>\n" ++ flat_map clip_text (r ∷ rs) ++ codes "</defs>\n"
