use Rattle.std.proofs.Common.{◌≡◌, Some, false, int_eq, inl, inr, ap, ap₂, subst, sym, refl, ◌∙◌, ℤ, pos, of_z}
use Rattle.std.proofs.lemmas.Bool.{cases_Bool}
use Rattle.std.proofs.lemmas.Bool.Decides.{Decides-int_eq}
use mir.Syntax.{w128}
use Rattle.exact.specs.Spots.{is_same_spot}
use Rattle.exact.specs.declared.spot.Spot.{Spot}
use Rattle.curves.specs.Arcs.{circle_through, circle_by}
use Rattle.curves.specs.Vectors.{way, cross}
use Rattle.curves.specs.Bounds.{IsNotZero}
use Rattle.curves.proofs.Aboves.{above_from_test, spots_apart}
use Rattle.curves.proofs.circle.Circle.through.Goals as goal

not_equal : (z : ℤ) → (of_z w128 z ≡ 0 → ⊥) → int_eq z (pos 0) ≡ false
not_equal z h = elim (cases_Bool (int_eq z (pos 0))) [
  | inl e ↦ (let d = Decides-int_eq z (pos 0) in let f : z ≡ pos 0 = d.0 e in absurd (h (ap (of_z w128) f)))
  | inr e ↦ e
]

is_by : (a b c : Spot) → is_same_spot c a ≡ false → int_eq (cross (way a b) (way a c)) (pos 0) ≡ false
    → Some (circle_by a (way a b) (way a c)) ≡ circle_through a b c
is_by a b c e f = rw (e, f) refl

pub returns-clause-value : goal.returns-clause-value
returns-clause-value c =
    let e = c.way-to_b.ensures in
    let f = c.way-to_c.ensures in
    let g = not_equal c.cross.result c.if-cross-eq0.false in
    let h = rw (c.cross.ensures, e, f) at g in
    ap Some (c.by.ensures.value ∙ ap₂ (circle_by c.args.a) e f)
    ∙ is_by c.args.a c.args.b c.args.c (sym c.if-eq.ensures) h

pub whole-requires-clause-not_zero : goal.whole-requires-clause-not_zero
whole-requires-clause-not_zero c =
    let P : Spot → Type 0 = IsNotZero in
    subst P (sym c.way-to_b.ensures) (spots_apart c.args.a c.args.b (sym c.if-eq-2.ensures))

pub by-requires-clause-apart : goal.by-requires-clause-apart
by-requires-clause-apart c =
    rw (← c.cross.ensures) (above_from_test c.cross.result (not_equal c.cross.result c.if-cross-eq0.false))
