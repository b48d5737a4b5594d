-- What keeps the arithmetic in 128 bits: the sizes of P1, P2 and SC's numbers, of the lines, and of the coordinates on
-- them.
use Rattle.std.specs.Prelude.{◌≡◌, ◌≢◌, ◌<◌, ◌+◌, ◌*◌, ◌^◌, ◌≤◌, ℤ, pos, ◌+ℤ◌, ◌*ℤ◌, ◌<ℤ◌, ◌≤ℤ◌, ◌-ℤ◌, nat_abs, ⊤}
use Rattle.plot_frame.specs.declared.axis.Axis.{Axis}
use Rattle.plot_frame.specs.declared.pair.AxisName.{AxisName}
use Rattle.plot_frame.specs.declared.pair.Pair.{Pair}
use Rattle.plot_frame.specs.declared.scaling.Ends.{Ends}
use Rattle.plot_frame.specs.declared.scaling.Range.{Range}
use Rattle.plot_frame.specs.declared.scaling.FittedRange.{FittedRange}
use Rattle.plot_frame.specs.declared.scaling.Factor.{Factor}
use Rattle.plot_frame.specs.declared.scaling.Scaling.{Scaling}
use Rattle.plot_frame.specs.declared.scaling.Scaling.TheVariants.{Off, Anisotropic, Isotropic, PointFactor}
use Rattle.plot_frame.specs.declared.sides.Side.{Side}
use Rattle.plot_frame.specs.declared.sides.Ratio.{Ratio}

pub record IsLine (a : Axis) : Type 0 where
  pub slope_in : nat_abs a.slope ≤ 2 ^ 56
  pub slope_not_0 : a.slope ≢ pos 0
  pub offset_in : nat_abs a.offset ≤ 2 ^ 104
  pub under_in : nat_abs a.under ≤ 2 ^ 72
  pub under_above : pos 0 <ℤ a.under

-- a line on which coordinates are plotter units, and places are computed in 64 bits
pub record IsUnscaled (a : Axis) : Type 0 where
  pub slope_is : a.slope ≡ pos 16
  pub under_is : a.under ≡ pos 1000000
  pub offset_in : nat_abs a.offset ≤ 2 ^ 55

-- the coordinate of a place that is not far from the page, or one that is rounded to it
pub record IsNear (a : Axis) (u : ℤ) : Type 0 where
  pub near : nat_abs (a.slope *ℤ u +ℤ a.offset) ≤ 2 ^ 29 * nat_abs a.under + nat_abs a.slope

-- a coordinate of either axis that is small on both, so that it can be turned from one to the other
pub record IsSmall (axes : AxisName → Axis) (u : ℤ) : Type 0 where
  pub size : nat_abs u ≤ 2 ^ 77
  pub product_in : (n : AxisName) → nat_abs ((axes n).slope *ℤ u) ≤ 2 ^ 115

-- what holds on both axes
pub record Both {A : Type 0} (P : A → Type 0) (p : Pair A) : Type 0 where
  pub x : P p.x
  pub y : P p.y

-- P1 and P2 differ on an axis
pub record IsEnds (e : Ends) : Type 0 where
  pub first_in : nat_abs e.first ≤ 2 ^ 25
  pub distance_in : nat_abs (e.last -ℤ e.first) ≤ 2 ^ 25
  pub apart : (e.last -ℤ e.first) ≢ pos 0

abbrev pub IsPoints : Pair Ends → Type 0
IsPoints p = Both IsEnds p

pub record IsRange (r : Range) : Type 0 where
  pub least_in : nat_abs r.least ≤ 2 ^ 43
  pub most_in : nat_abs r.most ≤ 2 ^ 43
  pub apart : (r.most -ℤ r.least) ≢ pos 0

-- a percentage is 0 to 100
pub record IsFittedRange (f : FittedRange) : Type 0 where
  pub range : IsRange f.range
  pub share_from : pos 0 ≤ℤ f.share
  pub share_in : nat_abs f.share ≤ 10 ^ 8

pub record IsFactor (f : Factor) : Type 0 where
  pub least_in : nat_abs f.least ≤ 2 ^ 43
  pub factor_in : nat_abs f.factor ≤ 2 ^ 43
  pub factor_not_0 : f.factor ≢ pos 0

abbrev pub IsScaling : Scaling → Type 0
IsScaling Off = ⊤
IsScaling (Anisotropic r) = Both IsRange r
IsScaling (Isotropic f) = Both IsFittedRange f
IsScaling (PointFactor f) = Both IsFactor f

-- all this in one; a factor is part of the distance
pub record IsSide (s : Side) : Type 0 where
  pub start_in : nat_abs s.start ≤ 2 ^ 25
  pub distance_in : nat_abs s.distance ≤ 2 ^ 43
  pub least_in : nat_abs s.least ≤ 2 ^ 43
  pub extent_in : nat_abs s.extent ≤ 2 ^ 44
  pub distance_not_0 : s.distance ≢ pos 0
  pub extent_not_0 : s.extent ≢ pos 0

pub record IsSize (r : Ratio) : Type 0 where
  pub over_in : r.over ≤ 2 ^ 25
  pub over_above : 0 < r.over
  pub under_in : r.under ≤ 2 ^ 44
  pub under_above : 0 < r.under
