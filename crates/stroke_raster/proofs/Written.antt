-- What a vector holds when it is made, and after the slice of all its items was written.
use Rattle.std.proofs.Common.{◌≡◌, ℕ, List, ◌++◌, length, take, ap, sym, ◌∙◌}
use Rattle.std.proofs.Math.Seq.{take-append_seam}

pub whole : {X : Type 0} (new rest : List X) (n : ℕ) → length new ≡ n → take n (new ++ rest) ≡ new
whole new rest n h = ap (λ (k : ℕ). take k (new ++ rest)) (sym h) ∙ take-append_seam new rest
