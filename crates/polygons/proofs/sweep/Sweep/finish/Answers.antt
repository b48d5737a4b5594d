use Rattle.std.proofs.Common.{◌∙◌, ℤ, pos, ◌+ℤ◌, to_z, of_z, int_lt, rules, tests}
use mir.Syntax.{w32}
use Rattle.std.proofs.lemmas.Fn.{filter_same}
use Rattle.polygons.proofs.Bits.{small_back}
use Rattle.polygons.proofs.Steps.{finished, passed_line, line_below, kept}
use Rattle.polygons.proofs.sweep.Sweep.finish.Goals as goal

pub returns-clause-sound : goal.returns-clause-sound
returns-clause-sound c =
    let s = c.args.self.now in
    let h = c.requires in
    let line : ℤ = to_z w32 (of_z w32 (to_z w32 (of_z w32 s.line) +ℤ pos 1)) in
    let f = filter_same _ (λ x. int_lt line (to_z w32 (of_z w32 x.end))) _ (λ x b q k. search (rules, tests)) _ _ c.retain.ensures.filtered in
    let a = small_back s.line h.sound.line_in in
    let b = small_back (s.line +ℤ pos 1) (line_below s h) in
    let e = f ∙ kept s line h.sound in
    let g = rw (a, b) at e in
    rw (a, b) (finished s c.retain.new.self h g)

pub returns-clause-passed : goal.returns-clause-passed
returns-clause-passed c =
    let s = c.args.self.now in
    let h = c.requires in
    let a = small_back s.line h.sound.line_in in
    let b = small_back (s.line +ℤ pos 1) (line_below s h) in
    rw (a, b) (passed_line s c.retain.new.self h)
