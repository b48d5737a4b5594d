-- That the numbers of a scaling are in their range has one proof at most, as the facts of types must.
use Rattle.std.specs.Coded.{le_prop, Unit-prop}
use Rattle.std.specs.Prelude.{ℤ, ◌≤ℤ◌}
use lib.Dec.{T_prop}
use mathlib.Core.HLevel.{¬_prop}
use Rattle.plot_frame.specs.declared.pair.Pair.{Pair}
use Rattle.plot_frame.specs.declared.scaling.Range.{Range}
use Rattle.plot_frame.specs.declared.scaling.FittedRange.{FittedRange}
use Rattle.plot_frame.specs.declared.scaling.Factor.{Factor}
use Rattle.plot_frame.specs.declared.scaling.Scaling.{Scaling}
use Rattle.plot_frame.specs.declared.scaling.Scaling.TheVariants.{Off, Anisotropic, Isotropic, PointFactor}
use Rattle.plot_frame.specs.Bounds.{Both, IsRange, IsFittedRange, IsFactor, IsScaling}

at_most_prop : {x y : ℤ} → IsProp (x ≤ℤ y)
at_most_prop a b = λ i. record { le = T_prop _ a.le b.le i }

IsRange-prop : (r : Range) → IsProp (IsRange r)
IsRange-prop r a b = λ i. record {
  least_in = le_prop a.least_in b.least_in i;
  most_in = le_prop a.most_in b.most_in i;
  apart = ¬_prop a.apart b.apart i;
}

IsFittedRange-prop : (f : FittedRange) → IsProp (IsFittedRange f)
IsFittedRange-prop f a b = λ i. record {
  range = IsRange-prop f.range a.range b.range i;
  share_from = at_most_prop a.share_from b.share_from i;
  share_in = le_prop a.share_in b.share_in i;
}

IsFactor-prop : (f : Factor) → IsProp (IsFactor f)
IsFactor-prop f a b = λ i. record {
  least_in = le_prop a.least_in b.least_in i;
  factor_in = le_prop a.factor_in b.factor_in i;
  factor_not_0 = ¬_prop a.factor_not_0 b.factor_not_0 i;
}

Both-prop : {A : Type 0} (P : A → Type 0) → ((a : A) → IsProp (P a)) → (p : Pair A) → IsProp (Both P p)
Both-prop P h p a b = λ i. record { x = h p.x a.x b.x i; y = h p.y a.y b.y i }

pub IsScaling-prop : (s : Scaling) → IsProp (IsScaling s)
IsScaling-prop Off = Unit-prop
IsScaling-prop (Anisotropic r) = Both-prop IsRange IsRange-prop r
IsScaling-prop (Isotropic f) = Both-prop IsFittedRange IsFittedRange-prop f
IsScaling-prop (PointFactor f) = Both-prop IsFactor IsFactor-prop f
