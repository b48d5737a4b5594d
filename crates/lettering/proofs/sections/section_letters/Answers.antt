use Rattle.std.proofs.Common.{rules, ◌≡◌, ◌∙◌, suc, List, length, sym, ap, ap₂, arith, ℤ, FitsSigned, to_z}
use mir.Syntax.{w64}
use Rattle.std.proofs.lemmas.Int.{ints, clamps, to_z-of_z}
use Rattle.std.specs.Int.{int_max}
use Rattle.character_sets.specs.declared.sign.Sign.{Sign}
use Rattle.lettering.specs.Columns.{reach_from}
use Rattle.lettering.proofs.Reaches.{reach_more}
use Rattle.lettering.proofs.sections.section_letters.Goals as goal

pub signs-preserved : goal.signs-preserved
signs-preserved c =
    let sign = c.in-Some.sign in
    let rest = c.next_sign.new.self in
    let column : ℤ = to_z w64 c.signs.column-bits in
    let most : ℤ = to_z w64 c.signs.most-bits in
    let before = c.signs.invariant in
    let next = c.column_after_sign-column.ensures in
    let f1 : FitsSigned w64 c.column_after_sign-column.result = search rules in
    let f2 : FitsSigned w64 c.max-most.result = search rules in
    let taken = c.in-Some.ensures.taken in
    let shorter : length c.signs.rest ≡ suc (length rest) = ap (λ (signs : List Sign). length signs) taken in
    let near = next.near in
    let largest = simp to_z-of_z at c.max-most.ensures.value in
    let bound = simp to_z-of_z at c.max-most.ensures.other_bound in
    let column_in = before.column_in in
    let most_in = before.most_in in
    simp to_z-of_z (record {
      same =
          ap₂ (λ (m n : ℤ). int_max m (reach_from n rest)) (largest ∙ ap (λ (n : ℤ). int_max most n) next.value) next.value
          ∙ sym (reach_more most column sign rest before.reached c.in_default-sign.not-CarriageReturn)
          ∙ ap (λ (signs : List Sign). int_max most (reach_from column signs)) (sym taken)
          ∙ before.same;
      reached = bound;
      column_in = omega (arith, ints, near, shorter, column_in);
      most_in = omega (arith, ints, clamps, near, shorter, column_in, most_in, largest);
    })
