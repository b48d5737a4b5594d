use Rattle.std.proofs.Common.{arith, ◌≤◌, length}
use Rattle.full_font.specs.Glyphs as glyphs
use Rattle.full_font.proofs.Polylines.{length-glyph_strokes_through}
use Rattle.full_font.proofs.characters.stroke_count.Goals as goal

pub returns-in_default : goal.returns-in_default
returns-in_default c =
    let ps = glyphs.glyph_points c.args.line.now in
    let several : 2 ≤ length ps = omega arith in
    let e = length-glyph_strokes_through ps several in omega arith
