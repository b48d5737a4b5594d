use Rattle.std.proofs.Common.{sym, arith}
use Rattle.std.proofs.lemmas.Option.{slice_get_within}
use Rattle.full_font.specs.Glyphs.{code_point_strokes}
use Rattle.full_font.proofs.FontLaws.{few}
use Rattle.lettering.specs.Letters.{letter_stroke}
use Rattle.lettering.proofs.Lists.{map_none, map_some}
use Rattle.lettering.proofs.checked.Lettering.stroke.Goals as goal

pub returns-in-Some-clause-value : goal.returns-in-Some-clause-value
returns-in-Some-clause-value c =
    let style = c.args.self.now.style in
    let corner = c.args.corner in
    let p = c.placed.ensures.value in
    rw p (sym (map_some (letter_stroke style corner) (code_point_strokes c.args.code_point) c.args.k c.in-Some.stroke (sym c.in-Some.ensures)))

pub returns-in-Some-clause-few : goal.returns-in-Some-clause-few
returns-in-Some-clause-few c =
    let h = few c.args.code_point in
    let e = slice_get_within (code_point_strokes c.args.code_point) c.args.k _ (sym c.in-Some.ensures) in
    omega arith

pub returns-in-None-clause-value : goal.returns-in-None-clause-value
returns-in-None-clause-value c =
    let style = c.args.self.now.style in
    sym (map_none (letter_stroke style c.args.corner) (code_point_strokes c.args.code_point) c.args.k (sym c.in-None.ensures))
