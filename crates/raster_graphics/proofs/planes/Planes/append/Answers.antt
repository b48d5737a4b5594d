use Rattle.std.proofs.Common.{◌≡◌, ◌∙◌, sym, ap, ap₂, arith, ℕ, List, [], ◌∷◌, ◌++◌, ◌+◌, ◌<◌, length, take, get_or, append_assoc}
use Rattle.std.proofs.lemmas.List.{take_more, take_all}
use Rattle.raster_graphics.proofs.planes.Planes.append.Goals as goal

-- one more of the others
more_of : (had others : List (List ℕ)) (so_far : List (List ℕ)) (i : ℕ) (plane : List ℕ) → i < length others
    → plane ≡ get_or others i []
    → so_far ≡ had ++ take i others → so_far ++ plane ∷ [] ≡ had ++ take (i + 1) others
more_of had others so_far i plane h e f =
    ap₂ (λ (a : List (List ℕ)) (b : List ℕ). a ++ b ∷ []) f e ∙ append_assoc had (take i others) (get_or others i [] ∷ [])
    ∙ ap (λ (z : List (List ℕ)). had ++ z) (sym (take_more others i [] h))

pub loop-number-preserved : goal.loop-number-preserved
loop-number-preserved c = record {
  end = c.loop-number.invariant.end;
  planes = c.in_ok-push.ensures
      ∙ more_of c.args.self.now c.args.others.now c.loop-number.self c.loop-number.number c.in_ok-copied.field-0.items (omega
      (arith, c.loop-number-test.true, c.loop-number.invariant.end))
      (c.in_ok-copied.ensures ∙ c.get.ensures.plane) c.loop-number.invariant.planes;
}

pub returns : goal.returns
returns c =
    c.loop-number.invariant.planes
    ∙ ap (λ (z : List (List ℕ)). c.args.self.now ++ z) (take_all c.loop-number.number c.args.others.now (omega
    (arith, c.loop-number-test.false, c.loop-number.invariant.end)))
