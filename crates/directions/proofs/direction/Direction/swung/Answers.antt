use Rattle.std.proofs.Common.{rules, ◌≡◌, ℤ, pos, neg_ℤ, to_z, ◌^◌, ◌∙◌, ap, ap₂, sym, arith, FitsSigned}
use mir.Syntax.{w32, w128}
use Rattle.std.proofs.lemmas.Int.{ints, to_z-of_z}
use Rattle.exact.specs.declared.spot.Spot.{Spot}
use Rattle.directions.specs.Directions.{swung}
use Rattle.directions.specs.declared.turn.Turn.TheVariants.{Quarter}
use Rattle.directions.proofs.Axes.{axes_are_exact_lem}
use Rattle.directions.proofs.direction.Direction.swung.Goals as goal

abbrev vector : ℤ → ℤ → Spot
vector x y = record { x = x; y = y }

pub returns-then-self-eq-ONE-2-clause-value : goal.returns-then-self-eq-ONE-2-clause-value
returns-then-self-eq-ONE-2-clause-value c =
    let o = c.args.offset in
    let f : FitsSigned w128 o.x = omega (arith, ints) in
    let g : FitsSigned w128 o.y = omega (arith, ints) in
    let h : FitsSigned w128 (neg_ℤ o.y) = omega (arith, ints) in
    let i = c.self.inside in
    let fx : FitsSigned w32 i.x = search rules in
    let fy : FitsSigned w32 i.y = search rules in
    let x : i.x ≡ pos 0 = sym (to_z-of_z w32 i.x fx) ∙ ap (to_z w32) c.if-self-eq0-2.true in
    let y : i.y ≡ pos (2 ^ 30) = sym (to_z-of_z w32 i.y fy) ∙ ap (to_z w32) c.if-self-eq-ONE-2.true in
    ap₂ vector (simp to_z-of_z (omega (arith, ints))) (to_z-of_z w128 o.x f)
    ∙ sym (axes_are_exact_lem.swings Quarter o)
    ∙ ap (λ (d : Spot). swung d o) (sym (ap₂ vector x y) ∙ c.self.view_is)
