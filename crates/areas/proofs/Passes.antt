-- Which rows pass an edge: those between its ends.
use Rattle.std.proofs.Common.{◌≡◌, ℕ, Bool, true, false, ◌&&◌, refl, ℤ, pos, ◌-ℤ◌, ◌*ℤ◌, ◌≤ℤ◌, ◌<ℤ◌, int_le, int_lt}
use Rattle.plot_page.specs.Segments.{Segment}
use Rattle.polygons.proofs.Tests.{le_false, lt_false}
use Rattle.areas.specs.Inside.{rises_past, falls_past}

-- tests of which the first or the second fails
pub fails : (p q s : Bool) → p ≡ false → ((p && q) && s) ≡ false
fails p q s e = rw e refl

pub fails_second : (p q s : Bool) → q ≡ false → ((p && q) && s) ≡ false
fails_second true q s e = rw e refl
fails_second false q s e = refl

module _ (r : ℕ) (y : ℤ) (e : Segment) where
  abbrev first : ℤ
  first = pos r *ℤ e.ay

  abbrev last : ℤ
  last = pos r *ℤ e.by

  abbrev right_of : ℤ → Bool
  right_of x = int_le ((e.bx -ℤ e.ax) *ℤ (y -ℤ pos r *ℤ e.ay)) ((x -ℤ pos r *ℤ e.ax) *ℤ (e.by -ℤ e.ay))

  abbrev left_of : ℤ → Bool
  left_of x = int_le ((x -ℤ pos r *ℤ e.ax) *ℤ (e.by -ℤ e.ay)) ((e.bx -ℤ e.ax) *ℤ (y -ℤ pos r *ℤ e.ay))

  -- an edge whose last end is not above a place does not pass it upwards; and one whose first end is above it does not
  pub ends_below : (x : ℤ) → last ≤ℤ y → rises_past r e x y ≡ false
  ends_below x h = fails_second (int_le first y) (int_lt y last) (right_of x) (lt_false y last h)

  pub begins_above : (x : ℤ) → y <ℤ first → rises_past r e x y ≡ false
  begins_above x h = fails (int_le first y) (int_lt y last) (right_of x) (le_false first y h)

  pub begins_below : (x : ℤ) → first ≤ℤ y → falls_past r e x y ≡ false
  begins_below x h = fails_second (int_le last y) (int_lt y first) (left_of x) (lt_false y first h)

  pub ends_above : (x : ℤ) → y <ℤ last → falls_past r e x y ≡ false
  ends_above x h = fails (int_le last y) (int_lt y first) (left_of x) (le_false last y h)
