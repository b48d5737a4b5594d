-- The widths of all pens, one pen after another.
use Rattle.std.proofs.Common.{◌≡◌, ◌<◌, ◌≤◌, ◌+◌, ◌∙◌, sym, ℕ, suc, List, [], take, ◌∷◌, ◌++◌, length, set, get_or, refl, ap, arith, Option, Some, None}
use Rattle.std.proofs.Math.Seq.{take-suc}
use Rattle.std.proofs.lemmas.List.{length-take-le}
use Rattle.std.proofs.lemmas.List.Elements.{All-cons, All-head, All-tail}
use Rattle.plot_settings.specs.Bounds.{AreWidths}
use Rattle.full_settings.specs.Widths.{width_by, widths_by, grains_of_percent}

next_width : (d : ℕ) (ps : List (Option ℕ)) (p : Option ℕ) (ws : List ℕ) → length ps < length ws
    → widths_by d (ps ++ p ∷ []) ws ≡ set (widths_by d ps ws) (length ps) (width_by d p (get_or (widths_by d ps ws) (length ps) 0))
next_width d [] p [] h = absurd (omega arith)
next_width d [] p (w ∷ ws) h = refl
next_width d (q ∷ ps) p [] h = absurd (omega arith)
next_width d (q ∷ ps) p (w ∷ ws) h = ap (λ (vs : List ℕ). width_by d q w ∷ vs) (next_width d ps p ws (omega arith))

pub one_more_width : (d : ℕ) (ps : List (Option ℕ)) (ws all : List ℕ) (i v : ℕ) → i < 256 → length ps ≡ 256 → length ws ≡ 256
    → all ≡ widths_by d (take i ps) ws → v ≡ width_by d (get_or ps i None) (get_or all i 0)
    → set all i v ≡ widths_by d (take (i + 1) ps) ws
one_more_width d ps ws all i v h l m e f =
    let p = get_or ps i None in
    let n : length (take i ps) ≡ i = length-take-le i ps (omega (arith, h, l)) in
    let next : i + 1 ≡ suc i = omega arith in
    let cut : take (i + 1) ps ≡ take i ps ++ p ∷ [] = ap (λ (k : ℕ). take k ps) next ∙ take-suc ps i None (omega (arith, h, l)) in
    rw (cut, f, e) (sym (rw n at (next_width d (take i ps) p ws (omega (arith, h, m, n)))))

-- widths are in range
pub by_percent_within : (d q : ℕ) → grains_of_percent d q ≤ 12800
by_percent_within d q = omega arith

pub within : (d : ℕ) (ps : List (Option ℕ)) (ws : List ℕ) → AreWidths ws → AreWidths (widths_by d ps ws)
within d [] ws h = h
within d (p ∷ ps) [] h = h
within d (Some q ∷ ps) (w ∷ ws) h =
    All-cons (λ (v : ℕ). v ≤ 12800) (grains_of_percent d q) (widths_by d ps ws) (by_percent_within d q) (within d ps ws (All-tail (λ (v : ℕ). v ≤ 12800) w ws h))
within d (None ∷ ps) (w ∷ ws) h =
    All-cons (λ (v : ℕ). v ≤ 12800) w (widths_by d ps ws) (All-head (λ (v : ℕ). v ≤ 12800) w ws h) (within d ps ws (All-tail (λ (v : ℕ). v ≤ 12800) w ws h))
