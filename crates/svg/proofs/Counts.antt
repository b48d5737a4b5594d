-- Labels whose strokes are counted from other strokes.
use Rattle.std.proofs.Common.{◌≡◌, ℕ, ◌-◌, List, [], ◌∷◌, drop, take, refl, sym, arith}
use Rattle.std.proofs.lemmas.List.{drop-map, take-map}
use Rattle.labels.specs.Labels.{LabelShape}
use Rattle.labels.specs.Sheets.{all_counted, counted}

less_none : (n : ℕ) → n - 0 ≡ n
less_none n = omega arith

one_none : (l : LabelShape) → counted 0 l ≡ l
one_none l = λ i. record l { first = less_none l.first i; after = less_none l.after i }

-- no strokes come before
pub counted_none : (ls : List LabelShape) → all_counted 0 ls ≡ ls
counted_none [] = refl
counted_none (l ∷ ls) = λ i. one_none l i ∷ counted_none ls i

-- the first labels, and those after them
pub first_counted : (before n : ℕ) (ls : List LabelShape) → all_counted before (take n ls) ≡ take n (all_counted before ls)
first_counted before n ls = sym (take-map (counted before) n ls)

pub rest_counted : (before n : ℕ) (ls : List LabelShape) → all_counted before (drop n ls) ≡ drop n (all_counted before ls)
rest_counted before n ls = sym (drop-map (counted before) n ls)
