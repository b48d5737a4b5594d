use Rattle.std.proofs.Common.{rules, ◌<◌, sym, arith}
use Rattle.std.proofs.lemmas.Option.{slice_get_within}
use Rattle.stick_font.specs.Glyphs.{glyph_strokes}
use Rattle.stick_font.proofs.FontLaws.{few}
use Rattle.stick_font.proofs.label.label_stroke.Goals as goal

pub returns-in-Some-clause-few : goal.returns-in-Some-clause-few
returns-in-Some-clause-few c =
    let byte = c.args.byte in
    let hb : byte < 256 = search rules in
    let h = few byte hb in
    let e = slice_get_within (glyph_strokes byte) c.args.k _ (sym c.in-Some.ensures) in
    omega arith
