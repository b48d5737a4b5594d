-- The greatest length of planes, one after another.
use Rattle.std.proofs.Common.{◌≡◌, ◌∙◌, ap, refl, ℕ, ◌+◌, ◌<◌, max, List, [], ◌∷◌, ◌++◌, length, take, get_or, arith}
use Rattle.std.proofs.lemmas.List.{take_more}
use Rattle.raster_graphics.specs.Lengths.{longest}

longest-append : (planes : List (List ℕ)) (plane : List ℕ) → longest (planes ++ plane ∷ []) ≡ max (longest planes) (length plane)
unfolding longest
longest-append [] plane = omega arith
longest-append (first ∷ planes) plane = let more : longest (planes ++ plane
    ∷ []) ≡ max (longest planes) (length plane) = longest-append planes plane in omega (arith, more)

pub longest_more : (planes : List (List ℕ)) (i : ℕ) → i < length planes
    → longest (take (i + 1) planes) ≡ max (longest (take i planes)) (length (get_or planes i []))
longest_more planes i h = ap longest (take_more planes i [] h) ∙ longest-append (take i planes) (get_or planes i [])

pub longest_none : (planes : List (List ℕ)) → 0 ≡ longest (take 0 planes)
unfolding longest
longest_none planes = refl
