use Rattle.std.proofs.Common.{◌≡◌, ℕ, ◌+◌, ◌==◌, Bool, true, false, cond, List, [], ◌∷◌, take, refl, add-one, ◌∙◌}
use Rattle.pieces.specs.Fractions.{decimals}
use Rattle.pieces.proofs.fractions.Fraction.new.Goals as goal

-- a point, and the first digits
cut : (b : Bool) (n : ℕ) (ds : List ℕ) → take (cond b 0 (n + 1)) (46 ∷ ds) ≡ cond b [] (46 ∷ take n ds)
cut true n ds = refl
cut false n ds = rw add-one refl

pub returns : goal.returns
returns c =
    let n = c.args.thousandths in
    (λ i. take (c.fraction_size.ensures.value i) (46 ∷ c.digit.ensures i ∷ c.digit-2.ensures i ∷ c.digit-3.ensures i ∷ [])) ∙ cut (n == 0) (decimals n) _
