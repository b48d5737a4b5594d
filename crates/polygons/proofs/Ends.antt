-- The lines that an edge crosses, and how far along the edge a line is.
use Rattle.std.proofs.Common.{◌≡◌, ℕ, ◌*◌, ◌^◌, ◌<◌, ◌≤◌, [], ◌∷◌, Bool, true, inl, inr, ap, ap₂, ◌∙◌, arith, ℤ, pos, nat_abs, ◌-ℤ◌, ◌*ℤ◌, ◌≤ℤ◌, ◌<ℤ◌, int_le, int_lt, to_z, of_z, FitsSigned}
use mir.Syntax.{w32, w64, w128}
use Rattle.std.proofs.lemmas.Bool.{and_parts}
use Rattle.std.proofs.lemmas.Int.{ints, clamps, to_z-of_z, fits_signed_from_abs, by_lt_z}
use Rattle.std.specs.Int.{int_min, int_max}
use Rattle.exact.proofs.Fit.{product_within, difference_within}
use Rattle.exact.specs.declared.spot.Spot.{Spot}
use Rattle.polygons.specs.declared.edge.Edge.{Edge}
use Rattle.polygons.specs.declared.lines.Lines.{Lines}
use Rattle.polygons.specs.declared.climb.Crossing as code
use Rattle.polygons.specs.Fills.{height, line_distance, level, rank, bottom, top, line_from, crosses, crossing}
use Rattle.polygons.specs.Climbs.{IsPart, climb_by, climb_of, crossing_by, crossing_of}
use Rattle.polygons.proofs.Shares.{IsOnWay}
use Rattle.polygons.proofs.Tests.{lt_true, lt_false, le_from, lt_from}

pub max_within : (a b : ℤ) (m : ℕ) → nat_abs a ≤ m → nat_abs b ≤ m → nat_abs (int_max a b) ≤ m
max_within a b m h k = omega (arith, ints, clamps)

pub min_within : (a b : ℤ) (m : ℕ) → nat_abs a ≤ m → nat_abs b ≤ m → nat_abs (int_min a b) ≤ m
min_within a b m h k = omega (arith, ints, clamps)

-- a climb, as code finds it
module _ (lines : Lines) (e : Edge) (n : ℕ) (a b low high first end : ℤ) (a_is : a ≡ height lines e.from) (b_is : b ≡ height lines e.to)
    (low_is : low ≡ int_min a b) (high_is : high ≡ int_max a b) (first_is : first ≡ line_from lines low) (end_is : end ≡ line_from lines high) where
  climb_is : climb_by first end n ≡ climb_of lines n e
  climb_is =
      ap₂ (λ f g. climb_by f g n)
      (first_is ∙ ap (line_from lines) (low_is ∙ ap₂ int_min a_is b_is))
      (end_is ∙ ap (line_from lines) (high_is ∙ ap₂ int_max a_is b_is))

  pub climb_some : first <ℤ end → record { first = first; end = end; number = n } ∷ [] ≡ climb_of lines n e
  climb_some h = let t = lt_true first end h in rw t at climb_is

  pub climb_none : end ≤ℤ first → [] ≡ climb_of lines n e
  climb_none h = let t = lt_false first end h in rw t at climb_is

-- a height between those of two ends
pub on_way : (a b v : ℤ) → int_min a b ≤ℤ v → v <ℤ int_max a b → IsOnWay (v -ℤ a) (b -ℤ a) × (0 < nat_abs (b -ℤ a))
on_way a b v p q =
    by_lt_z a b
    (λ l. (inl (omega (arith, ints, clamps), omega (arith, ints, clamps)), omega (arith, ints)))
    (λ l. (inr (omega (arith, ints, clamps), omega (arith, ints, clamps)), omega (arith, ints, clamps)))

part_between : (a b v : ℤ) → int_min a b ≤ℤ v → v <ℤ int_max a b → nat_abs a ≤ 10 ^ 7 * 2 ^ 37 → nat_abs b ≤ 10 ^ 7 * 2 ^ 37 → IsPart (v -ℤ a) (b -ℤ a)
part_between a b v p q h k =
    let w = on_way a b v p q in
    record { between = w.0; not_zero = w.1; most = omega (arith, ints) }

part_of : (lines : Lines) (k : ℤ) (e : Edge) → crosses lines k e ≡ true → nat_abs (height lines e.from) ≤ 10 ^ 7 * 2 ^ 37 → nat_abs (height lines e.to) ≤ 10 ^ 7 * 2 ^ 37
    → IsPart (level lines k -ℤ height lines e.from) (height lines e.to -ℤ height lines e.from)
part_of lines k e c h j =
    let p = and_parts (int_le (bottom lines e) (level lines k)) (int_lt (level lines k) (top lines e)) c in
    part_between (height lines e.from) (height lines e.to) (level lines k) (le_from (bottom lines e) (level lines k) p.0) (lt_from (level lines k) (top lines e) p.1) h j

-- numbers as they are read back from their bits
abbrev t : ℤ → ℤ
t z = to_z w128 (of_z w128 z)

abbrev s : ℤ → ℤ
s z = to_z w64 (of_z w64 z)

abbrev r : ℤ → ℤ
r z = to_z w32 (of_z w32 z)

-- the numbers that code divides
pub record AreWays (lines : Lines) (k : ℤ) (e : Edge) (below above l d : ℤ) : Type 0 where
  pub level_fits : FitsSigned w128 (t l *ℤ t d)
  pub way_fits : FitsSigned w128 (t (t l *ℤ t d) -ℤ t below)
  pub whole_fits : FitsSigned w128 (t above -ℤ t below)
  pub way_is : t (t (t l *ℤ t d) -ℤ t below) ≡ level lines k -ℤ height lines e.from
  pub whole_is : t (t above -ℤ t below) ≡ height lines e.to -ℤ height lines e.from
  pub below_is : t below ≡ height lines e.from
  pub above_is : t above ≡ height lines e.to
  pub part : IsPart (level lines k -ℤ height lines e.from) (height lines e.to -ℤ height lines e.from)

read_height : (a h below : ℤ) → a ≡ h → nat_abs a ≤ 10 ^ 7 * 2 ^ 37 → below ≡ s a → (t below ≡ h) × (nat_abs h ≤ 10 ^ 7 * 2 ^ 37)
read_height a h below e m f =
    let fa : FitsSigned w64 a = fits_signed_from_abs w64 a (omega arith) in
    let g : below ≡ a = simp to_z-of_z at f in
    let fb : FitsSigned w128 below = rw g (fits_signed_from_abs w128 a (omega arith)) in
    (to_z-of_z w128 below fb ∙ g ∙ e, rw (← e) m)

pub ways : (lines : Lines) (k : ℤ) (e : Edge) (a b below above l d : ℤ) → nat_abs k ≤ 2 ^ 25 → crosses lines k e ≡ true
    → a ≡ height lines e.from → nat_abs a ≤ 10 ^ 7 * 2 ^ 37 → below ≡ s a → b ≡ height lines e.to → nat_abs b ≤ 10 ^ 7 * 2 ^ 37 → above ≡ s b
    → l ≡ r k → d ≡ pos (line_distance lines) → line_distance lines ≤ 10 ^ 7 * 2 ^ 40 → AreWays lines k e below above l d
ways lines k e a b below above l d hk c ea ha eb fa hb fb el ed hd =
    let p = read_height a (height lines e.from) below ea ha eb in
    let q = read_height b (height lines e.to) above fa hb fb in
    let fk : FitsSigned w32 k = fits_signed_from_abs w32 k (omega arith) in
    let gl : l ≡ k = simp to_z-of_z at el in
    let fl : FitsSigned w128 k = fits_signed_from_abs w128 k (omega arith) in
    let fd : FitsSigned w128 (pos (line_distance lines)) = fits_signed_from_abs w128 (pos (line_distance lines)) (omega arith) in
    let tl : t l ≡ k = rw gl (to_z-of_z w128 k fl) in
    let td : t d ≡ pos (line_distance lines) = rw ed (to_z-of_z w128 (pos (line_distance lines)) fd) in
    let m = product_within k (pos (line_distance lines)) (2 ^ 25) (10 ^ 7 * 2 ^ 40) hk hd in
    let fm : FitsSigned w128 (level lines k) = fits_signed_from_abs w128 (level lines k) (omega (arith, m)) in
    let tm : t (t l *ℤ t d) ≡ level lines k = rw (tl, td) (to_z-of_z w128 (level lines k) fm) in
    let n = difference_within (level lines k) (height lines e.from) (2 ^ 25 * (10 ^ 7 * 2 ^ 40)) (10 ^ 7 * 2 ^ 37) m p.1 in
    let fn : FitsSigned w128 (level lines k -ℤ height lines e.from) = fits_signed_from_abs w128 (level lines k -ℤ height lines e.from) (omega (arith, n)) in
    let o = difference_within (height lines e.to) (height lines e.from) (10 ^ 7 * 2 ^ 37) (10 ^ 7 * 2 ^ 37) q.1 p.1 in
    let fo : FitsSigned w128 (height lines e.to -ℤ height lines e.from) = fits_signed_from_abs w128 (height lines e.to -ℤ height lines e.from) (omega (arith, o)) in
    record {
      level_fits = rw (tl, td) fm;
      way_fits = rw (tm, p.0) fn;
      whole_fits = rw (q.0, p.0) fo;
      way_is = rw (tm, p.0) (to_z-of_z w128 (level lines k -ℤ height lines e.from) fn);
      whole_is = rw (q.0, p.0) (to_z-of_z w128 (height lines e.to -ℤ height lines e.from) fo);
      below_is = p.0;
      above_is = q.0;
      part = part_of lines k e c p.1 q.1;
    }

abbrev pub made : ℕ → Spot → ℤ → Bool → code.Crossing
made n place along upward = record { place = place; rank = along; is_upward = upward; number = n }

pub crossing_is : (lines : Lines) (k : ℤ) (e : Edge) (n : ℕ) (place : Spot) (along : ℤ) (upward : Bool)
    → place ≡ (crossing lines k e).place → along ≡ rank lines place → upward ≡ (crossing lines k e).is_upward
    → made n place along upward ≡ crossing_of lines k e n
crossing_is lines k e n place along upward p q u =
    ap (λ (z : ℤ). made n place z upward) q ∙ ap₂ (λ (x : Spot) (y : Bool). crossing_by lines x y n) p u

-- the lines of a climb, as code reads its numbers
pub max_read : (a b high : ℤ) → nat_abs a ≤ 10 ^ 7 * 2 ^ 37 → nat_abs b ≤ 10 ^ 7 * 2 ^ 37 → high ≡ int_max (s a) (s b) → nat_abs (s high) ≤ 10 ^ 7 * 2 ^ 37
max_read a b high ha hb e =
    let fa : FitsSigned w64 a = fits_signed_from_abs w64 a (omega arith) in
    let fb : FitsSigned w64 b = fits_signed_from_abs w64 b (omega arith) in
    let m = max_within a b (10 ^ 7 * 2 ^ 37) ha hb in
    let g : high ≡ int_max a b = simp to_z-of_z at e in
    let fh : FitsSigned w64 high = rw g (fits_signed_from_abs w64 (int_max a b) (omega (arith, m))) in
    rw (to_z-of_z w64 high fh, g) m

pub record IsClimbed (lines : Lines) (a b low high first end : ℤ) : Type 0 where
  pub low_is : low ≡ int_min a b
  pub high_is : high ≡ int_max a b
  pub first_is : first ≡ line_from lines low
  pub end_is : end ≡ line_from lines high
  pub first_back : r first ≡ first
  pub end_back : r end ≡ end

pub climbed : (lines : Lines) (a b low high first end : ℤ) → nat_abs a ≤ 10 ^ 7 * 2 ^ 37 → nat_abs b ≤ 10 ^ 7 * 2 ^ 37
    → low ≡ int_min (s a) (s b) → high ≡ int_max (s a) (s b) → first ≡ line_from lines (s low) → end ≡ line_from lines (s high)
    → nat_abs first ≤ 2 ^ 25 → nat_abs end ≤ 2 ^ 25 → IsClimbed lines a b low high first end
climbed lines a b low high first end ha hb el eh ef ee hf he =
    let fa : FitsSigned w64 a = fits_signed_from_abs w64 a (omega arith) in
    let fb : FitsSigned w64 b = fits_signed_from_abs w64 b (omega arith) in
    let m = min_within a b (10 ^ 7 * 2 ^ 37) ha hb in
    let n = max_within a b (10 ^ 7 * 2 ^ 37) ha hb in
    let gl : low ≡ int_min a b = simp to_z-of_z at el in
    let gh : high ≡ int_max a b = simp to_z-of_z at eh in
    let fl : FitsSigned w64 low = rw gl (fits_signed_from_abs w64 (int_min a b) (omega (arith, m))) in
    let fh : FitsSigned w64 high = rw gh (fits_signed_from_abs w64 (int_max a b) (omega (arith, n))) in
    record {
      low_is = gl;
      high_is = gh;
      first_is = ef ∙ ap (line_from lines) (to_z-of_z w64 low fl);
      end_is = ee ∙ ap (line_from lines) (to_z-of_z w64 high fh);
      first_back = to_z-of_z w32 first (fits_signed_from_abs w32 first (omega arith));
      end_back = to_z-of_z w32 end (fits_signed_from_abs w32 end (omega arith));
    }
