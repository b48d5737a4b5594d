-- Entries that are set one after another, and the index of a dot that has a plane for each bit.
use Rattle.std.proofs.Common.{◌≡◌, ◌≢◌, ◌∙◌, sym, ap, ap₂, ℕ, zero, suc, ◌+◌, ◌-◌, ◌*◌, ◌^◌, ◌<◌, ◌≤◌, List, [], ◌∷◌, length, get_or, set, drop, arith, refl, below_more, get_or-set_same, get_or-set_other}
use Rattle.std.proofs.Math.Nat.{mod-lt, pow-suc}
use Rattle.std.proofs.Math.Pow.{pow_mono}
use Rattle.std.proofs.Math.Seq.{drop-cons}
use Rattle.plot_page.specs.declared.colour.Colour.{Colour}
use Rattle.image_colours.specs.Palettes.{black}
use Rattle.image_colours.specs.Dots.{bits_at, index_of_planes}

-- one more entry has its colour
pub set_more : (f : ℕ → Colour) (xs : List Colour) (i : ℕ) (x : Colour) → i < length xs → x ≡ f i
    → ((k : ℕ) → k < i → get_or xs k black ≡ f k) → (k : ℕ) → k < i + 1 → get_or (set xs i x) k black ≡ f k
set_more f xs i x within is before =
    below_more _ _ (λ k h. let other : k ≢ i = omega arith in rw get_or-set_other (before k h)) (rw get_or-set_same is)

-- a bit is below 2
bit_below : (plane : List ℕ) (column : ℕ) → bits_at 1 plane column < 2
bit_below plane column = mod-lt _ (omega arith)

-- an index is below the power of as many bits as it has planes
pub index_below : (planes : List (List ℕ)) (column : ℕ) → index_of_planes planes column < 2 ^ length planes
unfolding index_of_planes
index_below [] column = omega arith
index_below (plane ∷ planes) column = omega (arith, bit_below plane column, index_below planes column, pow-suc 2 (length planes))

-- of so many planes at most
pub index_within : (planes : List (List ℕ)) (column count : ℕ) → length planes ≤ count → index_of_planes planes column < 2 ^ count
index_within planes column count few =
    let more : 2 ^ length planes ≤ 2 ^ count = pow_mono few in
    omega (arith, index_below planes column, more)

-- the index of the planes from a place on, by that of the planes after it
pub index_step : (planes : List (List ℕ)) (left column bit index : ℕ) → 0 < left → left ≤ length planes
    → bit ≡ bits_at 1 (get_or planes (left - 1) []) column → index ≡ index_of_planes (drop left planes) column
    → bit + 2 * index ≡ index_of_planes (drop (left - 1) planes) column
unfolding index_of_planes
index_step planes zero column bit index some within b i = absurd (omega (arith, some))
index_step planes (suc left) column bit index some within b i =
    let here : suc left - 1 ≡ left = omega arith in
    let inside : left < length planes = omega (arith, within) in
    ap₂ (λ (m n : ℕ). m + 2 * n) (b ∙ ap (λ (k : ℕ). bits_at 1 (get_or planes k []) column) here) i
    ∙ ap (λ (z : List (List ℕ)). index_of_planes z column) (sym (drop-cons planes left [] inside))
    ∙ ap (λ (k : ℕ). index_of_planes (drop k planes) column) (sym here)

-- no planes are left after the last one
pub index_none : (planes : List (List ℕ)) (left column : ℕ) → length planes ≤ left → 0 ≡ index_of_planes (drop left planes) column
unfolding index_of_planes
index_none [] zero column h = refl
index_none [] (suc left) column h = refl
index_none (plane ∷ planes) zero column h = absurd (omega (arith, h))
index_none (plane ∷ planes) (suc left) column h = index_none planes left column (omega (arith, h))
