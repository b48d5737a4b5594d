-- The sides of a frame are in their range, and so is the unit that both have.
use Rattle.std.proofs.Common.{Bool, true, false, if◌then◌else◌, ◌≢◌, ◌≤◌, ◌<◌, ◌^◌, refl, zero, suc, arith, ℤ, pos, negsuc, ◌*ℤ◌, nat_abs, int_le}
use Rattle.std.proofs.lemmas.Int.{ints}
use Rattle.exact.specs.Fraction.{Fraction}
use Rattle.plot_frame.specs.declared.pair.AxisName.{AxisName}
use Rattle.plot_frame.specs.declared.pair.AxisName.TheVariants.{X, Y}
use Rattle.plot_frame.specs.declared.pair.Pair.{Pair}
use Rattle.plot_frame.specs.declared.scaling.Ends.{Ends}
use Rattle.plot_frame.specs.declared.scaling.Range.{Range}
use Rattle.plot_frame.specs.declared.scaling.FittedRange.{FittedRange}
use Rattle.plot_frame.specs.declared.scaling.Factor.{Factor}
use Rattle.plot_frame.specs.Bounds.{Both, IsEnds, IsRange, IsFittedRange, IsFactor, IsPoints, IsSide}
use Rattle.plot_frame.specs.Frame.{on_axis, lesser, ratio, unit_size, side_of}
use Rattle.plot_frame.specs.Line.{factor_side}
use Rattle.plot_frame.proofs.Values.{above_0}

-- what holds on both axes holds on each
pub both_on_axis : {A : Type 0} (P : A → Type 0) (n : AxisName) (p : Pair A) → Both P p → P (on_axis n p)
both_on_axis P X p h = h.x
both_on_axis P Y p h = h.y

pub side_in : (e : Ends) (r : Range) → IsEnds e → IsRange r → IsSide (side_of e r)
side_in e r h k =
    let d = h.distance_in in
    let a = k.least_in in
    let b = k.most_in in
    record { start_in = h.first_in; distance_in = omega arith; least_in = a; extent_in = omega (arith, ints); distance_not_0 = h.apart; extent_not_0 = k.apart }

pub factor_side_in : (e : Ends) (f : Factor) → IsEnds e → IsFactor f → IsSide (factor_side e f)
factor_side_in e f h k = record { start_in = h.first_in; distance_in = k.factor_in; least_in = k.least_in; extent_in = omega arith; distance_not_0 = k.factor_not_0; extent_not_0 = above_0 (10 ^ 12) (omega arith) }

-- the size of a unit
pub record IsUnit (size : Fraction) : Type 0 where
  pub over_in : nat_abs size.over ≤ 2 ^ 25
  pub over_not_0 : size.over ≢ pos 0
  pub under_in : size.under ≤ 2 ^ 44
  pub under_above : 0 < size.under

above : (d : ℤ) → d ≢ pos 0 → 0 < nat_abs d
above (pos zero) h = absurd (h refl)
above (pos (suc n)) h = omega arith
above (negsuc n) h = omega arith

ratio_in : (e : Ends) (r : Range) → IsEnds e → IsRange r → IsUnit (ratio (side_of e r))
ratio_in e r h k =
    let s = side_in e r h k in
    record { over_in = h.distance_in; over_not_0 = above_0 (nat_abs (side_of e r).distance) (above (side_of e r).distance h.apart); under_in = s.extent_in; under_above = above (side_of e r).extent k.apart }

-- it is one of the two ratios
lesser_in : (f g : Fraction) → IsUnit f → IsUnit g → IsUnit (lesser f g)
lesser_in f g h k = chosen (int_le (f.over *ℤ pos g.under) (g.over *ℤ pos f.under))
  where
    chosen : (b : Bool) → IsUnit (if b then f else g)
    chosen true = h
    chosen false = k

pub unit_in : (p : Pair Ends) (f : Pair FittedRange) → IsPoints p → Both IsFittedRange f → IsUnit (unit_size p f)
unit_in p f h k = lesser_in (ratio (side_of p.x f.x.range)) (ratio (side_of p.y f.y.range)) (ratio_in p.x f.x.range h.x k.x.range) (ratio_in p.y f.y.range h.y k.y.range)
