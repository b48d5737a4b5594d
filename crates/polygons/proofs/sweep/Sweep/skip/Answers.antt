use Rattle.std.proofs.Common.{arith, ◌∙◌, ap, sym, length, eqb-true, rules}
use Rattle.std.proofs.lemmas.List.{nil_from_length}
use Rattle.polygons.proofs.Bits.{small_back}
use Rattle.polygons.proofs.Steps.{no_line_left, first_near, skipped, skipped_left, skipped_cut}
use Rattle.polygons.proofs.sweep.Sweep.skip.Goals as goal

pub returns-in-None-clause-none : goal.returns-in-None-clause-none
returns-in-None-clause-none c = λ _.
    let s = c.args.self.now in
    let z = eqb-true s.active.len 0 (sym c.is_empty.ensures ∙ c.if-is_empty.true) in
    let e = nil_from_length s.active.items (omega (arith, z, s.active.ok.0)) in
    let d = ap length c.deref.ensures.value in
    let g = c.in-None.ensures.lookup in
    no_line_left s c.requires e (omega (arith, d, g.3))

pub returns-in-Some : goal.returns-in-Some
returns-in-Some c =
    let s = c.args.self.now in
    let x = c.in-Some.climb.now in
    let z = eqb-true s.active.len 0 (sym c.is_empty.ensures ∙ c.if-is_empty.true) in
    let e = nil_from_length s.active.items (omega (arith, z, s.active.ok.0)) in
    let d = c.deref.ensures.value in
    let g = rw d at c.in-Some.ensures.lookup in
    let l = g.3.0 in
    let b = small_back x.first (first_near s x c.requires l g.1) in
    record {
      sound = rw b (skipped s x c.requires e l g.1);
      kept = search rules;
      same = rw b (skipped_left s x c.requires e l g.1);
      some = λ _. rw b (skipped_cut s x c.requires e l g.1);
      none = search rules;
    }
