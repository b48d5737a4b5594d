-- The numbers of a text, one after another, and what their first two ask for.
use Rattle.std.proofs.Common.{◌≡◌, ◌∙◌, ◌+◌, ◌-◌, ◌<◌, ◌≤◌, ℕ, ℤ, zero, suc, Bool, true, false, List, [], ◌∷◌, Option, Some, None, refl, sym, ap, ap₂, drop, drop-drop, fold, arith, codes}
use Rattle.std.specs.List.{prefix_len}
use Rattle.std.specs.Prelude.{if◌then◌else◌}
use Rattle.std.specs.Str.{bytes_eq}
use Rattle.hpgl_text.specs.Bytes.{is_separator}
use Rattle.hpgl_text.specs.Numbers.{begins_with_number, ends_numbers, found_up_to, number_length, number_value, numbers, past_number, past_numbers, past_separators}
use Rattle.hpgl_text.specs.Numbers as numbers
use Rattle.hpgl_text.specs.Shapes.{ItemShape}
use Rattle.plot_page.specs.declared.page.Page.{Page}
use Rattle.plot_size.specs.Measures.{measured, sides_measured, with_number}
use Rattle.plot_size.specs.Sizes.{sides_by, sides_in, sides_of_item, units}

abbrev pub Measures : Type 0
Measures = Option (ℕ × Option ℕ)

-- if there is no number, that is all
pub no_more : (n : ℕ) (text : List ℕ) → begins_with_number (past_separators text) ≡ false → found_up_to n text ≡ ([], past_separators text)
no_more zero text none = refl
no_more (suc n) text none = rw (none, found_up_to) refl

-- if there is one, it is the first
one_more : (n : ℕ) (text rest : List ℕ) → begins_with_number (past_separators text) ≡ true → rest ≡ past_number text
    → found_up_to (suc n) text ≡ numbers.with_number (number_value (past_separators text)) (found_up_to n rest)
one_more n text rest there left = rw (left, there, found_up_to) refl

-- the same by the place after it
pub read_more : (n : ℕ) (text rest : List ℕ) (end : ℕ) → 0 < n → begins_with_number (past_separators text) ≡ true
    → end ≡ prefix_len is_separator text + number_length (past_separators text) → rest ≡ drop end text
    → found_up_to n text ≡ numbers.with_number (number_value (past_separators text)) (found_up_to (n - 1) rest)
read_more zero text rest end more there at left = absurd (omega arith)
read_more (suc n) text rest end more there at left =
    let less : suc n - 1 ≡ n = omega arith in
    let past : rest ≡ past_number text = left ∙ ap (λ (k : ℕ). drop k text) at ∙ sym (drop-drop (number_length (past_separators text)) (prefix_len is_separator text) text) in
    one_more n text rest there past ∙ ap (λ (k : ℕ). numbers.with_number (number_value (past_separators text)) (found_up_to k rest)) (sym less)

-- no further one is looked for
pub none_left : (n : ℕ) (text : List ℕ) → n ≤ 0 → found_up_to n text ≡ ([], past_separators text)
none_left zero text none = refl
none_left (suc n) text none = absurd (omega arith)

-- what was found, if no number is left
pub all_found : (n : ℕ) (text left : List ℕ) (found : Measures) → found_up_to n left ≡ ([], past_separators left) → fold with_number found (found_up_to n left).0 ≡ measured (numbers text)
    → (found_up_to n left).1 ≡ past_numbers text
    → (if ends_numbers (past_separators left) then found else None) ≡ (if ends_numbers (past_numbers text) then measured (numbers text) else None)
all_found n text left found none all past =
    let same : found ≡ measured (numbers text) = sym (ap (λ (f : List ℤ × List ℕ). fold with_number found f.0) none) ∙ all in
    let end : past_separators left ≡ past_numbers text = sym (ap (λ (f : List ℤ × List ℕ). f.1) none) ∙ past in
    ap₂ (λ (t : List ℕ) (m : Measures). if ends_numbers t then m else None) end same

-- after the second number further ones change nothing
further : (width height : ℕ) (ns : List ℤ) → fold with_number (Some (width, Some height)) ns ≡ Some (width, Some height)
further width height [] = refl
further width height (n ∷ ns) = further width height ns

-- what the first two numbers ask for is what all ask for
pub same_sides : (longest : ℕ) (page : Page) (ns : List ℤ) → sides_measured longest page (measured ns) ≡ sides_by longest page ns
same_sides longest page [] = refl
same_sides longest page (length ∷ []) = refl
same_sides longest page (length ∷ width ∷ ns) = ap (sides_measured longest page) (further (units length) (units width) ns)

-- the same, if they are only asked for before an end
pub same_sides_if : (longest : ℕ) (page : Page) (ended : Bool) (ns : List ℤ) → sides_measured longest page (if ended then measured ns else None) ≡ (if ended then sides_by longest page ns else None)
same_sides_if longest page true ns = same_sides longest page ns
same_sides_if longest page false ns = refl

-- what an item asks for that is a PS
pub item_asks : (longest : ℕ) (page : Page) (plot : List ℕ) (item : ItemShape) (code : List ℕ) (at : ℕ) → code ≡ item.code → at ≡ item.at → bytes_eq code (codes "PS") ≡ true
    → sides_of_item longest page plot item ≡ sides_in longest page (drop 2 (drop at plot))
item_asks longest page plot item code at same_code same_place is =
    let named : bytes_eq item.code (codes "PS") ≡ true = ap (λ (c : List ℕ). bytes_eq c (codes "PS")) (sym same_code) ∙ is in
    rw named (ap (λ (n : ℕ). sides_in longest page (drop 2 (drop n plot))) (sym same_place))
