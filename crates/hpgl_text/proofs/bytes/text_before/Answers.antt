use Rattle.std.proofs.Common.{◌∙◌, ap, sym, ℕ, length, take, take_all, arith}
use Rattle.hpgl_text.proofs.Places.{place_found, place_missing}
use Rattle.hpgl_text.proofs.bytes.text_before.Goals as goal

pub returns-in-Some : goal.returns-in-Some
returns-in-Some c = ap (λ (k : ℕ). take k c.args.text.now) (sym (place_found c.args.byte c.args.text.now c.in-Some.place c.in-Some.ensures.0 c.in-Some.ensures.1))

pub returns-in-None : goal.returns-in-None
returns-in-None c =
    sym (take_all (length c.args.text.now) c.args.text.now (omega arith))
    ∙ ap (λ (k : ℕ). take k c.args.text.now) (sym (place_missing c.args.byte c.args.text.now c.in-None.ensures))
