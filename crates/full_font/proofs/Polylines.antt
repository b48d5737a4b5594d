-- The points and the strokes of a polyline, by their numbers.
use Rattle.std.proofs.Common.{◌≡◌, ◌<◌, ◌≤◌, ◌+◌, ◌-◌, ◌*◌, ◌/◌, ℕ, zero, suc, List, [], ◌∷◌, length, get_or, Some, slice_get, refl, ap, arith}
use Rattle.full_font.specs.Glyphs.{glyph_points, glyph_point, glyph_stroke, glyph_joins, glyph_strokes_through}
use Rattle.full_font.specs.declared.grid.Point.{Point}

pub length-points : (line : List ℕ) → length (glyph_points line) ≡ (length line + 1) / 3
length-points [] = refl
length-points (x ∷ []) = refl
length-points (x ∷ y ∷ []) = refl
length-points (x ∷ y ∷ space ∷ rest) = let e = length-points rest in omega arith

pub slice_get-points : (line : List ℕ) (i : ℕ) → i < length (glyph_points line) → slice_get (glyph_points line) i ≡ Some (glyph_point (get_or line (3 * i) 0) (get_or line (3 * i + 1) 0))
slice_get-points [] i h = absurd (omega arith)
slice_get-points (x ∷ []) i h = absurd (omega arith)
slice_get-points (x ∷ y ∷ []) zero h = refl
slice_get-points (x ∷ y ∷ []) (suc i) h = absurd (omega arith)
slice_get-points (x ∷ y ∷ space ∷ rest) zero h = refl
slice_get-points (x ∷ y ∷ space ∷ rest) (suc i) h =
    let first : 3 * suc i ≡ suc (suc (suc (3 * i))) = omega arith in
    let second : suc (suc (suc (3 * i))) + 1 ≡ suc (suc (suc (3 * i + 1))) = omega arith in
    let within : i < length (glyph_points rest) = omega arith in
    rw (first, second) (slice_get-points rest i within)

pub length-glyph_joins : (a : Point) (ps : List Point) → length (glyph_joins (a ∷ ps)) ≡ length ps
length-glyph_joins a [] = refl
length-glyph_joins a (b ∷ rest) = ap suc (length-glyph_joins b rest)

pub length-glyph_strokes_through : (ps : List Point) → 2 ≤ length ps → length (glyph_strokes_through ps) ≡ length ps - 1
length-glyph_strokes_through [] h = absurd (omega arith)
length-glyph_strokes_through (a ∷ []) h = absurd (omega arith)
length-glyph_strokes_through (a ∷ b ∷ rest) h = let e = length-glyph_joins a (b ∷ rest) in omega arith

pub length-glyph_strokes_through-le : (ps : List Point) → length (glyph_strokes_through ps) ≤ length ps
length-glyph_strokes_through-le [] = omega arith
length-glyph_strokes_through-le (a ∷ []) = omega arith
length-glyph_strokes_through-le (a ∷ b ∷ rest) = let e = length-glyph_joins a (b ∷ rest) in omega arith

slice_get-glyph_joins : (a : Point) (ps : List Point) (k : ℕ) (p q : Point) → slice_get (a ∷ ps) k ≡ Some p → slice_get ps k ≡ Some q → slice_get (glyph_joins (a ∷ ps)) k ≡ Some (glyph_stroke p q)
slice_get-glyph_joins a [] k p q from to = cc
slice_get-glyph_joins a (b ∷ rest) zero p q from to = cc
slice_get-glyph_joins a (b ∷ rest) (suc k) p q from to = slice_get-glyph_joins b rest k p q from to

-- a stroke from one point to the next
pub stroke_to_next : (ps : List Point) (k : ℕ) (p q : Point) → slice_get ps k ≡ Some p → slice_get ps (suc k) ≡ Some q → slice_get (glyph_strokes_through ps) k ≡ Some (glyph_stroke p q)
stroke_to_next [] k p q from to = cc
stroke_to_next (a ∷ []) k p q from to = cc
stroke_to_next (a ∷ b ∷ rest) k p q from to = slice_get-glyph_joins a (b ∷ rest) k p q from to

-- the only stroke that has no next point is a dot
pub stroke_of_dot : (ps : List Point) (k : ℕ) (p : Point) → k < length (glyph_strokes_through ps) → length ps ≤ suc k → slice_get ps k ≡ Some p → slice_get (glyph_strokes_through ps) k ≡ Some (glyph_stroke p p)
stroke_of_dot [] k p h last from = cc
stroke_of_dot (a ∷ []) zero p h last from = cc
stroke_of_dot (a ∷ []) (suc k) p h last from = cc
stroke_of_dot (a ∷ b ∷ rest) k p h last from = let e = length-glyph_joins a (b ∷ rest) in absurd (omega arith)
