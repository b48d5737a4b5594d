use Rattle.std.proofs.Common.{◌<◌, ◌≤◌, ◌-◌, suc, length, slice_get, add-one, sym, ap, ◌∙◌, arith}
use Rattle.full_font.specs.Glyphs as glyphs
use Rattle.stick_font.proofs.Strokes.{strokes_from, stroke_here, stroke_later}
use Rattle.full_font.proofs.characters.glyph.Goals as goal

pub returns-then-left-count : goal.returns-then-left-count
returns-then-left-count c =
    let line = c.as_bytes-line.result.now in
    let within : c.loop-line.left < length (glyphs.polyline_glyph_strokes line) = omega (arith, c.stroke_count-count.ensures) in
    sym (c.loop-line.invariant
    ∙ stroke_here glyphs.polyline_glyph_strokes c.polylines-line-items.result.now c.loop-line.line-index _ line c.loop-line.left c.as_bytes-line.ensures.value c.loop-line-test.true within
    ∙ c.stroke_at.ensures)

pub loop-line-preserved : goal.loop-line-preserved
loop-line-preserved c =
    let lines = c.polylines-line-items.result.now in
    let line = c.as_bytes-line.result.now in
    let beyond : length (glyphs.polyline_glyph_strokes line) ≤ c.loop-line.left = omega (arith, c.stroke_count-count.ensures) in
    let later = stroke_later glyphs.polyline_glyph_strokes lines c.loop-line.line-index _ line c.loop-line.left c.as_bytes-line.ensures.value c.loop-line-test.true beyond in
    rw add-one (c.loop-line.invariant ∙ later
    ∙ ap (λ n. slice_get (strokes_from glyphs.polyline_glyph_strokes lines (suc c.loop-line.line-index)) (c.loop-line.left - n)) (sym c.stroke_count-count.ensures))
