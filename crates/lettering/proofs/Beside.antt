-- Labels that are right of their start: where their letters are does not depend on how many there are.
use Rattle.std.proofs.Common.{◌≡◌, ℕ, List, [], ◌∷◌, ◌++◌, refl, sym, ap, ap₂, ◌∙◌, arith, ℤ, pos, ◌+ℤ◌, ◌-ℤ◌}
use Rattle.std.proofs.lemmas.Int.{ints}
use Rattle.exact.specs.declared.spot.Spot.{Spot}
use Rattle.character_sets.specs.declared.sign.Sign.{Sign}
use Rattle.character_sets.specs.declared.sign.Sign.TheVariants.{Printed, CarriageReturn, LineFeed, Back, Tab}
use Rattle.lettering.specs.Columns.{cell_moved_on}
use Rattle.lettering.specs.Labels.{strokes_from}
use Rattle.lettering.specs.Letters.{gap, letter_corner, letter_strokes, letters_beside, origin_column, shift}
use Rattle.lettering.specs.Styles.{parts_of, steps_to}
use Rattle.lettering.specs.declared.cell.Cell.{Cell}
use Rattle.lettering.specs.declared.style.Style.{Style}

same_beside : (column : ℕ) (step n m : ℤ) → column ≡ 0 → letters_beside column step n ≡ letters_beside column step m
same_beside column step n m e =
    let z : letters_beside 0 step n ≡ letters_beside 0 step m = omega (arith, ints) in
    ap (λ (k : ℕ). letters_beside k step n) e ∙ z ∙ sym (ap (λ (k : ℕ). letters_beside k step m) e)

same_corner : (style : Style) (cell : Cell) (n m : ℤ) → origin_column style ≡ 0 → letter_corner style cell n ≡ letter_corner style cell m
same_corner style cell n m e =
    let parts : Spot = parts_of style (steps_to style cell.column (pos cell.line)) in
    ap (λ (beside : ℤ). record { x = parts.x -ℤ (beside +ℤ gap style 6 (origin_column style)); y = parts.y -ℤ (shift style n).y })
    (same_beside (origin_column style) style.step_x n m e)

pub same_strokes : (style : Style) (n m : ℤ) (cell : Cell) (signs : List Sign) → origin_column style ≡ 0 → strokes_from style n cell signs ≡ strokes_from style m cell signs
same_strokes style n m cell [] e = refl
same_strokes style n m cell (CarriageReturn ∷ signs) e = refl
same_strokes style n m cell (LineFeed ∷ signs) e = same_strokes style n m (cell_moved_on cell LineFeed) signs e
same_strokes style n m cell (Back ∷ signs) e = same_strokes style n m (cell_moved_on cell Back) signs e
same_strokes style n m cell (Tab ∷ signs) e = same_strokes style n m (cell_moved_on cell Tab) signs e
same_strokes style n m cell (Printed code ∷ signs) e =
    ap₂ (λ (here rest : List (Spot × Spot)). here ++ rest)
    (ap (λ (corner : Spot). letter_strokes style corner code) (same_corner style cell n m e))
    (same_strokes style n m (cell_moved_on cell (Printed code)) signs e)
