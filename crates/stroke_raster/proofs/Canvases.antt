-- What an inked part leaves on a canvas of bits.
use Rattle.std.proofs.Common.{◌≡◌, ℕ, ◌+◌, ◌*◌, ◌<◌, ◌≤◌, Bool, true, false, ◌&&◌, cond, nat_le, nat_lt, List, refl, ◌∙◌, arith}
use Rattle.std.proofs.lemmas.Bool.Decides.{nat_tests}
use Rattle.stroke_raster.specs.declared.layout.Layout.{Layout}
use Rattle.stroke_raster.specs.declared.strip.Span.{Span}
use Rattle.stroke_raster.specs.Inks.{ink_at}
use Rattle.stroke_raster.specs.Parts.{ArePartInked}
use Rattle.stroke_raster.specs.Spans.{holds}

-- a pixel that is inked if a part holds it and it is reached, where each pixel that is reached lies in the part
in_part : (a b r : Bool) (m n : ℕ) → (r ≡ true → (a ≡ true) × (b ≡ true)) → m ≡ cond (a && (b && r)) 1 n → m ≡ cond r 1 n
in_part true true r m n h e = e
in_part a b false m n h e = e ∙ none a b
  where
    none : (a b : Bool) → cond (a && (b && false)) 1 n ≡ n
    none true true = refl
    none true false = refl
    none false b = refl
in_part true false true m n h e = cc (h refl).1
in_part false b true m n h e = cc (h refl).0

-- a place in a span
pub held : (span : Span) (k : ℕ) → span.low ≤ k → k < span.end → holds span k ≡ true
held span k u v =
    let a : nat_le span.low k ≡ true = grind (arith, nat_tests) in
    let b : nat_lt k span.end ≡ true = grind (arith, nat_tests) in
    rw (a, b) refl

-- the pixels that are reached are black, and the others are as they were
pub part_pixels : (reached : ℕ → ℕ → Bool) (layout : Layout) (part columns : Span) (width : ℕ) (old new : List ℕ) → width ≤ 8 * layout.stride
    → ((r k : ℕ) → r < layout.rows → k < width → reached (layout.first + r) k ≡ true → (holds part (layout.first + r) ≡ true) × (holds columns k ≡ true))
    → ArePartInked reached layout part columns old new
    → (r k : ℕ) → r < layout.rows → k < width → ink_at layout.stride new r k ≡ cond (reached (layout.first + r) k) 1 (ink_at layout.stride old r k)
part_pixels reached layout part columns width old new wide all inked r k u v =
    in_part (holds part (layout.first + r)) (holds columns k) (reached (layout.first + r) k) _ _ (λ t. all r k u v t) (inked r k u (omega (arith, v, wide)))
