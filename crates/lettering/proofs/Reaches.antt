-- How far the columns of a section reach.
use Rattle.std.proofs.Common.{◌≡◌, List, [], ◌∷◌, refl, arith, ℤ, ◌≤ℤ◌, ◌≢◌}
use Rattle.std.proofs.lemmas.Int.{ints, clamps}
use Rattle.std.specs.Int.{int_max}
use Rattle.character_sets.specs.declared.sign.Sign.{Sign}
use Rattle.character_sets.specs.declared.sign.Sign.TheVariants.{Printed, CarriageReturn, LineFeed, Back, Tab}
use Rattle.lettering.specs.Columns.{column_after_sign, reach_from}

-- a reach begins with its column
pub reach_least : (column : ℤ) (signs : List Sign) → column ≤ℤ reach_from column signs
reach_least column [] = omega (arith, ints)
reach_least column (CarriageReturn ∷ signs) = omega (arith, ints)
reach_least column (Printed code ∷ signs) = omega (arith, ints, clamps)
reach_least column (LineFeed ∷ signs) = omega (arith, ints, clamps)
reach_least column (Back ∷ signs) = omega (arith, ints, clamps)
reach_least column (Tab ∷ signs) = omega (arith, ints, clamps)

-- of three numbers, of which the second is no greater than the first, and the third no greater than the last
through : (most column next reach : ℤ) → column ≤ℤ most → next ≤ℤ reach → int_max most (int_max column reach) ≡ int_max (int_max most next) reach
through most column next reach p q = omega (arith, ints, clamps)

-- a reach goes on with that of the next column
pub reach_more : (most column : ℤ) (sign : Sign) (signs : List Sign) → column ≤ℤ most → sign ≢ CarriageReturn
    → int_max most (reach_from column (sign ∷ signs)) ≡ int_max (int_max most (column_after_sign column sign)) (reach_from (column_after_sign column sign) signs)
reach_more most column CarriageReturn signs p h = absurd (h refl)
reach_more most column (Printed code) signs p h = through most column (column_after_sign column (Printed code)) _ p (reach_least (column_after_sign column (Printed code)) signs)
reach_more most column LineFeed signs p h = through most column column _ p (reach_least column signs)
reach_more most column Back signs p h = through most column (column_after_sign column Back) _ p (reach_least (column_after_sign column Back) signs)
reach_more most column Tab signs p h = through most column (column_after_sign column Tab) _ p (reach_least (column_after_sign column Tab) signs)
