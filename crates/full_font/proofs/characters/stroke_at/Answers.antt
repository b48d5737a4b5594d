use Rattle.std.proofs.Common.{add-one, arith}
use Rattle.full_font.specs.Glyphs as glyphs
use Rattle.full_font.proofs.Polylines.{length-points, length-glyph_strokes_through-le, stroke_to_next, stroke_of_dot}
use Rattle.full_font.proofs.characters.stroke_at.Goals as goal

pub point_at-from-requires : goal.point_at-from-requires
point_at-from-requires c = omega (arith, length-glyph_strokes_through-le (glyphs.glyph_points c.args.line.now))

pub overflow_add-k : goal.overflow_add-k
overflow_add-k c = omega (arith, length-glyph_strokes_through-le (glyphs.glyph_points c.args.line.now), length-points c.args.line.now)

pub returns-then-k-point_count : goal.returns-then-k-point_count
returns-then-k-point_count c =
    rw c.stroke.ensures (stroke_to_next (glyphs.glyph_points c.args.line.now) c.args.k c.point_at-from.result c.point_at.result c.point_at-from.ensures (rw add-one at c.point_at.ensures))

pub returns-else-k-point_count : goal.returns-else-k-point_count
returns-else-k-point_count c =
    rw c.stroke-else-k-point_count.ensures (stroke_of_dot (glyphs.glyph_points c.args.line.now) c.args.k c.point_at-from.result c.requires (omega arith) c.point_at-from.ensures)
