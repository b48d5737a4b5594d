-- What a window, a dot and one more stroke do to a pixel.
use Rattle.std.proofs.Common.{◌≡◌, ℕ, ◌+◌, ◌*◌, Bool, true, false, ◌&&◌, List, [], ◌∷◌, ◌++◌, length, refl, ap, ap₂, ◌∙◌, arith, ℤ, pos, ◌+ℤ◌, ◌-ℤ◌, ◌*ℤ◌, int_le, cond}
use Rattle.std.proofs.lemmas.Int.{ints}
use Rattle.plot_page.specs.Segments.{Segment}
use Rattle.plot_page.specs.declared.pens.PenSet.{PenSet}
use Rattle.stroke_raster.specs.declared.vector.Vector.{Vector}
use Rattle.stroke_raster.specs.Covers.{in_window, first_end, last_end, drawn_width, covers_place}
use Rattle.stroke_raster.specs.Gap.{way, scaled, dot, cross, gap_met}
use Rattle.stroke_raster.specs.Laws.{is_in_disc, LaterStrokesCover}
use Rattle.plot_page.specs.Pens.{has_pen}
use Rattle.stroke_raster.specs.Shown.{last_position}
use Rattle.stroke_raster.proofs.Tops.{last_position-push}

pub clipped : (s : Segment) (r : ℕ) (p : Vector) → in_window s.window r p ≡ false → covers_place s r p ≡ false
clipped s r p h = rw h refl

-- from a vector of length zero the way to its first end decides
met_at : (v w : Vector) (d : ℕ) → v.x ≡ pos 0 → v.y ≡ pos 0 → gap_met v w d ≡ is_in_disc w d
met_at v w d x y =
    let z : dot v w ≡ pos 0 = ap₂ (λ (a b : ℤ). a *ℤ w.x +ℤ b *ℤ w.y) x y ∙ nothing w.x w.y in
    ap (λ (k : ℤ). cond (int_le k (pos 0)) (is_in_disc w d) (cond (int_le (dot v v) k) (int_le (pos 4 *ℤ dot (way v w) (way v w)) (pos (d * d))) (int_le (pos 4 *ℤ (cross v w *ℤ cross v w)) (pos (d * d) *ℤ dot v v)))) z
  where
    nothing : (a b : ℤ) → pos 0 *ℤ a +ℤ pos 0 *ℤ b ≡ pos 0
    nothing a b = omega (arith, ints)

no_way : (k a b : ℤ) → b ≡ a → k *ℤ b -ℤ k *ℤ a ≡ pos 0
no_way k a b e = ap (λ (z : ℤ). k *ℤ z -ℤ k *ℤ a) e ∙ same (k *ℤ a)
  where
    same : (z : ℤ) → z -ℤ z ≡ pos 0
    same z = omega (arith, ints)

pub disc : (s : Segment) (r : ℕ) (p : Vector) → s.bx ≡ s.ax → s.by ≡ s.ay →
    covers_place s r p ≡ (in_window s.window r p && is_in_disc (way (scaled (pos r) (first_end s)) p) (drawn_width s.width r))
disc s r p x y =
    let a = scaled (pos r) (first_end s) in
    let b = scaled (pos r) (last_end s) in
    ap (λ (t : Bool). in_window s.window r p && t) (met_at (way a b) (way a p) (drawn_width s.width r) (no_way (pos r) s.ax s.bx x) (no_way (pos r) s.ay s.by y))

-- whether a stroke is shown where its pen is selected and it covers the pixel
abbrev is_shown : (Segment → ℕ → ℕ → Bool) → PenSet → ℕ → ℕ → Segment → Bool
is_shown covers pens row column s = has_pen pens s.pen && covers s row column

pushed : (test : Segment → Bool) (ss : List Segment) (s : Segment) (b : Bool) → test s ≡ b → last_position test (ss ++ (s ∷ [])) ≡ cond b (length ss + 1) (last_position test ss)
pushed test ss s b e = last_position-push test ss s ∙ ap (λ (t : Bool). cond t (length ss + 1) (last_position test ss)) e

neither : (a : Bool) → a && false ≡ false
neither true = refl
neither false = refl

pub later : LaterStrokesCover
later = record {
  covered = λ covers pens ss s row column p c. pushed (is_shown covers pens row column) ss s true (ap₂ (λ (a b : Bool). a && b) p c);
  elsewhere = λ covers pens ss s row column c. pushed (is_shown covers pens row column) ss s false (ap (λ (b : Bool). has_pen pens s.pen && b) c ∙ neither (has_pen pens s.pen));
  other_pen = λ covers pens ss s row column p. pushed (is_shown covers pens row column) ss s false (ap (λ (a : Bool). a && covers s row column) p);
}
