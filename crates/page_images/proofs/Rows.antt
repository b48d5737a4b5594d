-- The rows of an image lie before its end.
use Rattle.std.proofs.Common.{◌≡◌, arith, ℕ, ◌<◌, List, [], ◌∷◌, length, get_or, inl, inr}
use Rattle.std.proofs.lemmas.Bool.{cases_lt}
use Rattle.raster_graphics.specs.Positions.{Ascends}
use Rattle.page_images.specs.Frames.{row_count}

-- the number of each row that was sent is below how many rows there are
pub below_count : (numbers : List ℕ) → Ascends numbers → (k : ℕ) → k < length numbers → get_or numbers k 0 < row_count numbers
below_count [] h k less = omega (arith, less)
below_count (number ∷ numbers) h k less = elim (cases_lt k (length numbers)) [
  | inl before ↦ (let l = h k (length numbers) 0 before (omega arith) in omega (arith, l))
  | inr last ↦ (let e : k ≡ length numbers = omega (arith, less, last) in rw e (omega arith))
]
