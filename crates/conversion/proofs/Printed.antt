-- The bytes of a row of marks are its printed marks.
use Rattle.std.proofs.Common.{◌≡◌, ℕ, ◌+◌, List, ◌++◌, ◌∷◌, [], true, false, cond, nat_eq, flat_map, decimal, ap, refl}
use Rattle.stroke_raster.specs.Marks.{row_marks}
use Rattle.picture_out.specs.declared.inks.Ink.{Ink}
use Rattle.picture_out.specs.Inks.{ink_at}
use Rattle.picture_out.specs.Marks.{line, marks_from}
use Rattle.conversion.specs.Laws.{printed}

pub marks_printed : (row column : ℕ) (inks : List Ink) (cells : List ℕ) → marks_from (decimal row) column inks cells ≡ flat_map (printed inks) (row_marks row column cells)
marks_printed row column inks [] = refl
marks_printed row column inks (x ∷ xs) =
    let text : List ℕ = line (decimal row) column (ink_at inks x) in
    let more = marks_printed row (column + 1) inks xs in
    elim (nat_eq x 0) as (λ b. cond b [] text ++ marks_from (decimal row) (column + 1) inks xs ≡ flat_map (printed inks) (cond b (row_marks row (column + 1) xs) ((row, column, x) ∷ row_marks row (column + 1) xs))) [
      | true ↦ more
      | false ↦ ap (λ (z : List ℕ). text ++ z) more
    ]
