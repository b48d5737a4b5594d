use Rattle.std.proofs.Common.{◌≡◌, map, drop, slice_get}
use Rattle.std.specs.List.{flat_map}
use Rattle.full_font.specs.Glyphs as glyphs
use Rattle.full_font.proofs.characters.glyph.Given as goal

-- the strokes that are left are those of the polylines that are left
abbrev pub invariant-loop-line : goal.invariant-loop-line
invariant-loop-line l =
    slice_get (glyphs.code_point_strokes l.fn.code_point) l.fn.k ≡ slice_get (flat_map glyphs.polyline_glyph_strokes (map (λ line. line.now) (drop l.line-index l.line-items))) l.left
