-- Labels that are counted from other strokes, and how many letters they have.
use Rattle.std.proofs.Common.{◌≡◌, ℕ, zero, suc, ◌+◌, ◌<◌, ◌≤◌, List, [], ◌∷◌, Bool, ◌||◌, length, take, drop, get_or, refl, ap, sym, ◌∙◌, arith}
use Rattle.std.specs.List.{list_any}
use Rattle.std.proofs.lemmas.List.{drop-map, take-map}
use Rattle.labels.specs.Labels.{LabelShape, LineShape}
use Rattle.labels.specs.Sheets.{all_counted, counted}
use Rattle.pdf.specs.Texts.{letter_count, line_letters}
use Rattle.pdf.proofs.Contents.{next_of}

pub letters_split : (k : ℕ) (ls : List LabelShape) → letter_count (take k ls) + letter_count (drop k ls) ≡ letter_count ls
letters_split zero ls = omega arith
letters_split (suc k) [] = refl
letters_split (suc k) (l ∷ ls) = omega (arith, letters_split k ls)

-- the labels of a sheet, and the others
pub letters_parts : (k : ℕ) (ls xs ys : List LabelShape) → xs ≡ take k ls → ys ≡ drop k ls → letter_count xs + letter_count ys ≡ letter_count ls
letters_parts k ls xs ys p q =
    ap (λ (z : List LabelShape). letter_count z + letter_count ys) p ∙ ap (λ (z : List LabelShape). letter_count (take k ls) + letter_count z) q ∙ letters_split k ls

pub count_drop : (before k : ℕ) (ls : List LabelShape) → all_counted before (drop k ls) ≡ drop k (all_counted before ls)
count_drop before k ls = sym (drop-map (counted before) k ls)

pub count_take : (before k : ℕ) (ls : List LabelShape) → all_counted before (take k ls) ≡ take k (all_counted before ls)
count_take before k ls = sym (take-map (counted before) k ls)

-- the next of those that are left
pub label_letters : (ls : List LabelShape) (i : ℕ) (l : LabelShape) → i < length ls → l ≡ get_or ls i l → letter_count (drop i ls) ≡ line_letters l.lines + letter_count (drop (i + 1) ls)
label_letters ls i l lt is = ap letter_count (next_of ls i l lt is)

pub line_length : (ls : List LineShape) (i : ℕ) (l : LineShape) → i < length ls → l ≡ get_or ls i l → line_letters (drop i ls) ≡ length l.text + line_letters (drop (i + 1) ls)
line_length ls i l lt is = ap line_letters (next_of ls i l lt is)

pub letters_left : (k : ℕ) (ls : List LabelShape) → letter_count (drop k ls) ≤ letter_count ls
letters_left k ls = omega (arith, letters_split k ls)

pub lines_left : (k : ℕ) (ls : List LineShape) → line_letters (drop k ls) ≤ line_letters ls
lines_left zero ls = omega arith
lines_left (suc k) [] = omega arith
lines_left (suc k) (l ∷ ls) = omega (arith, lines_left k ls)

-- a test of labels, counted or not
pub any_counted : (p : LabelShape → Bool) (from earlier : ℕ) (ls : List LabelShape) → list_any p (all_counted from (all_counted earlier ls)) ≡ list_any (λ l. p (counted from (counted earlier l))) ls
any_counted p from earlier [] = refl
any_counted p from earlier (l ∷ ls) = ap (λ (b : Bool). p (counted from (counted earlier l)) || b) (any_counted p from earlier ls)
