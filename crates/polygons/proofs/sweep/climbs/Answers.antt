use Rattle.std.proofs.Common.{arith, ◌∙◌, ◌∷◌, ◌++◌, [], ap, sym, length, take}
use Rattle.std.proofs.lemmas.List.{append-nil}
use Rattle.std.proofs.lemmas.List.Elements.{All-push}
use Rattle.polygons.specs.Climbs.{IsClimb, climbs_of}
use Rattle.polygons.proofs.Collected.{collected}
use Rattle.polygons.proofs.sweep.climbs.Goals as goal
use Rattle.polygons.proofs.sweep.climbs.Goals.{in-Some+in_ok-push, in_default}

pub loop-number-preserved : goal.loop-number-preserved
loop-number-preserved c =
    let m = c.loop-number.invariant in
    let i = c.loop-number.number in
    let lines = c.args.ruling.now.lines in
    let more = collected lines c.args.edges.now i c.index-edges-number.result c.loop-number-test.true c.index-edges-number.is in
    elim c.match-climb.branch [
      | in-Some+in_ok-push w ↦ (
          let x = w.in-Some.climb in
          let o = rw w.in-Some.is at c.climb.ensures.value in
          let r = rw w.in-Some.is at c.climb.ensures.range in
          let n = rw w.in-Some.is at c.climb.ensures.number in
          let items = w.in_ok-push.ensures.items in
          rw (w.climbs-is, items) (record {
            value = ap (λ xs. xs ++ (x ∷ [])) m.value ∙ ap (λ xs. climbs_of lines 0 (take i c.args.edges.now) ++ xs) o ∙ sym more;
            sound = All-push (IsClimb (length c.args.edges.now)) c.loop-number.climbs.items x m.sound (record { range = r; number_in = omega (arith, n, c.loop-number-test.true) });
          })
          )
      | in_default w ↦ (
          let o = rw w.in_default.is at c.climb.ensures.value in
          rw w.climbs-is (record {
            value = m.value ∙ sym (append-nil (climbs_of lines 0 (take i c.args.edges.now))) ∙ ap (λ xs. climbs_of lines 0 (take i c.args.edges.now) ++ xs) o ∙ sym more;
            sound = m.sound;
          })
          )
    ]
