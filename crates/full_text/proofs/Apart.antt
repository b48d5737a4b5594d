-- The items are apart, and few, and escapes are parts of the plot.
use Rattle.std.proofs.Common.{◌≡◌, ℕ, zero, suc, ◌+◌, ◌-◌, ◌<◌, ◌≤◌, ◌==◌, ◌||◌, Bool, true, false, if◌then◌else◌, List, [], ◌∷◌, length, take, drop, Option, Some, None, All, refl, arith, ap, sym, ◌∙◌, subst}
use Rattle.std.proofs.lemmas.Bool.{true≢false}
use Rattle.std.proofs.lemmas.Bool.Decides.{nat_tests}
use Rattle.std.proofs.lemmas.List.Elements.{All-nil, All-cons}
use Rattle.std.proofs.lemmas.Option.{none-some}
use Rattle.hpgl_text.specs.declared.profile.Profile.TheVariants.{Core, Full}
use Rattle.hpgl_text.specs.declared.mnemonic.Kind.{Kind}
use Rattle.hpgl_text.specs.declared.mnemonic.Kind.TheVariants.{Parameters, FurtherParameters, Moves, Curves, LabelEnd, LabelEndWithMode}
use Rattle.hpgl_text.specs.declared.terminator.Terminator.{Terminator}
use Rattle.hpgl_text.specs.Bytes.{byte, escape as esc, begins_with}
use Rattle.hpgl_text.specs.Numbers.{numbers, past_numbers, ends_numbers}
use Rattle.hpgl_text.specs.Shapes.{ItemShape, BodyShape, Bad, move_instruction, curve_instruction}
use Rattle.hpgl_text.specs.Shapes as shape
use Rattle.hpgl_text.specs.Terminators.{first_terminator, unprinted, named_terminator, printed_if, begins_with_printing}
use Rattle.hpgl_text.specs.Mnemonics.{kind_of}
use Rattle.hpgl_text.specs.Items.{Found, content_of, code_of, first_item, begins_with_mnemonic}
use Rattle.hpgl_text.specs.Left.{terminator_then}
use Rattle.hpgl_text.specs.Laws.{OneCut, CutFrom, ended, silent, found}
use Rattle.hpgl_text.specs.Cut.{terminator_after}
use Rattle.escapes.specs.Commands.{Said}
use Rattle.escapes.specs.Escapes.{escape}
use Rattle.raster_requests.specs.declared.place.Language.{Language}
use Rattle.raster_requests.specs.declared.place.Language.TheVariants.{Rtl, Hpgl2}
use Rattle.full_text.specs.Cut.{escape_at, item_in, item_of, taken_before, items_from, cut_by}
use Rattle.full_text.specs.Left.{silent_at}
use Rattle.full_text.specs.Laws.{least_bytes, AreApartFrom, ItemsAreApart, IsTakenFrom, EscapesAreTaken, ItemsAreFew}
use Rattle.full_text.proofs.Steps as step
use Rattle.full_text.proofs.Steps.{stepped, item_at, item_takes, takes_by, language_at}

-- the body of an instruction is no escape
abbrev is_escape : BodyShape → Bool
is_escape (shape.Escape taken) = true
is_escape _ = false

abbrev IsOther : BodyShape → Type 0
IsOther body = is_escape body ≡ false

other_least : (body : BodyShape) → IsOther body → least_bytes body ≡ 1
other_least (shape.Escape taken) h = absurd (true≢false h)
other_least _ h = refl

other_taken : (plot : List ℕ) (item : ItemShape) (body : BodyShape) → IsOther body → IsTakenFrom plot item body
other_taken plot item (shape.Escape taken) h = absurd (true≢false h)
other_taken plot item _ h = tt

other_if : (b : Bool) (x y : BodyShape) → IsOther x → IsOther y → IsOther (if b then x else y)
other_if true x y h k = h
other_if false x y h k = k

named_other : (text : List ℕ) → IsOther (named_terminator text)
named_other [] = refl
named_other (b ∷ text) =
    other_if (b == byte ";") (shape.Terminator first_terminator) _ refl
    (other_if (b == byte "\0" || b == byte "\n" || b == esc) Bad (shape.Terminator (unprinted b)) refl refl)

printed_other : (printed : Bool) (body : BodyShape) → IsOther body → IsOther (printed_if printed body)
printed_other printed (shape.Terminator end) h = refl
printed_other printed _ h = h

content_other : (kind : Kind) (t : Terminator) (at : ℕ) (text : List ℕ) → IsOther (content_of kind t at text).body
content_other (Parameters instruction) t at text = other_if (ends_numbers (past_numbers text)) (shape.Params instruction (numbers text)) Bad refl refl
content_other (FurtherParameters further) t at text = other_if (ends_numbers (past_numbers text)) (shape.Further further (numbers text)) Bad refl refl
content_other (Moves moves) t at text = other_if (ends_numbers (past_numbers text)) (shape.Params (move_instruction moves) (numbers text)) (shape.DamagedMoves moves (numbers text)) refl refl
content_other (Curves relative) t at text = other_if (ends_numbers (past_numbers text)) (shape.Further (curve_instruction relative) (numbers text)) (shape.DamagedCurves relative (numbers text)) refl refl
content_other LabelEnd t at text = named_other text
content_other LabelEndWithMode t at text =
    other_if (begins_with ";" text) (named_terminator text) _ (named_other text) (printed_other (begins_with_printing (drop 1 text)) (named_terminator text) (named_other text))
content_other _ t at text = refl

first_if : (b : Bool) (x y : Found) → IsOther x.item.body → IsOther y.item.body → IsOther (if b then x else y).item.body
first_if true x y h k = h
first_if false x y h k = k

first_other : (t : Terminator) (at : ℕ) (text : List ℕ) → IsOther (first_item (kind_of Full) t at text).item.body
first_other t at text = first_if (begins_with_mnemonic text) _ _ (content_other (kind_of Full (code_of text)) t (at + 2) (drop 2 text)) refl

-- an item is at its place, and takes its bytes at least
record Fits (at : ℕ) (it : Found) : Type 0 where
  place : it.item.at ≡ at
  bytes : least_bytes it.item.body ≤ it.bytes

fits_if : (at : ℕ) (b : Bool) (x y : Found) → Fits at x → Fits at y → Fits at (if b then x else y)
fits_if at true x y h k = h
fits_if at false x y h k = k

fits_in : (language : Language) (t : Terminator) (at : ℕ) (text : List ℕ) → Fits at (item_in language t at text)
fits_in Rtl t at text = record { place = refl; bytes = omega arith }
fits_in Hpgl2 t at text =
    fits_if at (begins_with_mnemonic text) _ _
    (record { place = refl; bytes = omega (arith, other_least _ (content_other (kind_of Full (code_of text)) t (at + 2) (drop 2 text))) })
    (record { place = refl; bytes = omega arith })

fits_of : (said : Option (List Said × List ℕ)) (language : Language) (t : Terminator) (at : ℕ) (text : List ℕ) → Fits at (item_of said language t at text)
fits_of None language t at text = fits_in language t at text
fits_of (Some said) language t at text = record { place = refl; bytes = omega arith }

item_fits : (plot : List ℕ) (language : Language) (t : Terminator) (at : ℕ) → Fits at (item_at plot language t at)
item_fits plot language t at = fits_of (escape_at (drop at plot)) language t at (drop at plot)

apart_from : (n : ℕ) (plot : List ℕ) (language : Language) (t : Terminator) (at from : ℕ) → from ≤ at → AreApartFrom from (items_from n plot language t at)
apart_from zero plot language t at from h = tt
apart_from (suc n) plot language t at from h = elim (stepped n plot language t at) [
  | step.past p e ↦ subst (AreApartFrom from) (sym e) tt
  | step.silent here quiet e ↦ subst (AreApartFrom from) (sym e) (apart_from n plot language t (at + silent_at language plot at) from (omega arith))
  | step.found here none e ↦ (let first = item_at plot language t at in
      let fits = item_fits plot language t at in
      subst (AreApartFrom from) (sym e) (
        omega (arith, fits.place, h),
        apart_from n plot (language_at plot language at) (terminator_then t first.item) (at + first.bytes)
            (first.item.at + least_bytes first.item.body) (omega (arith, fits.place, fits.bytes)),
      ))
]

pub items_are_apart_lem : ItemsAreApart
items_are_apart_lem plot = apart_from (length plot) plot Hpgl2 first_terminator 0 0 (omega arith)

few_from : (n : ℕ) (plot : List ℕ) (language : Language) (t : Terminator) (at : ℕ) → length (items_from n plot language t at) ≤ length plot - at
few_from zero plot language t at = omega arith
few_from (suc n) plot language t at = elim (stepped n plot language t at) [
  | step.past p e ↦ rw e (omega arith)
  | step.silent here quiet e ↦ rw e (omega (arith, few_from n plot language t (at + silent_at language plot at)))
  | step.found here none e ↦ (let first = item_at plot language t at in
      rw e (omega (arith, item_takes plot language t at, here, few_from n plot (language_at plot language at) (terminator_then t first.item) (at + first.bytes))))
]

-- in the profile core
takes_first : (t : Terminator) (at : ℕ) (text : List ℕ) → 0 < (first_item (kind_of Core) t at text).bytes
takes_first t at text = takes_by (begins_with_mnemonic text) _ _ (omega arith) (omega arith)

few_in_core : {plot : List ℕ} {before : List ItemShape} {at : ℕ} {items : List ItemShape} → CutFrom Core plot before at items → length items ≤ length plot - at
few_in_core (ended h) = omega arith
few_in_core (silent h s c) = omega (arith, few_in_core c, s)
few_in_core {plot} {before} {at} (found h s c) = omega (arith, few_in_core c, h, takes_first (terminator_after before) at (drop at plot))

pub items_are_few_lem : OneCut → ItemsAreFew
items_are_few_lem one Core plot = omega (arith, few_in_core ((one Core plot (cut_by Core plot)).1 refl))
items_are_few_lem one Full plot = omega (arith, few_from (length plot) plot Hpgl2 first_terminator 0)

-- escapes
same_first : (m : ℕ) (text : List ℕ) → take (length (take m text)) text ≡ take m text
same_first zero text = refl
same_first (suc m) [] = refl
same_first (suc m) (b ∷ text) = ap (λ (z : List ℕ). b ∷ z) (same_first m text)

one_more : (k : ℕ) → suc k ≡ 1 + k
one_more k = omega arith

taken_first : (m b : ℕ) (text : List ℕ) → b ≡ esc → esc ∷ take m text ≡ take (1 + length (take m text)) (b ∷ text)
taken_first m b text e = ap (λ (z : ℕ). z ∷ take m text) (sym e) ∙ ap (λ (z : List ℕ). b ∷ z) (sym (same_first m text))
    ∙ ap (λ (k : ℕ). take k (b ∷ text)) (one_more (length (take m text)))

first_is : (b : ℕ) (text : List ℕ) (said : List Said × List ℕ) (is : Bool) → (b == esc) ≡ is → (if is then escape text else None) ≡ Some said → b ≡ esc
first_is b text said false is e = absurd (none-some said e)
first_is b text said true is e = grind (arith, nat_tests, is)

taken_by : (text : List ℕ) (said : List Said × List ℕ) → escape_at text ≡ Some said → esc ∷ taken_before said.1 text ≡ take (1 + length (taken_before said.1 text)) text
taken_by [] said e = absurd (none-some said e)
taken_by (b ∷ text) said e = taken_first (length (b ∷ text) - 1 - length said.1) b text (first_is b text said (b == esc) refl e)

taken_in : (plot : List ℕ) (at : ℕ) (text : List ℕ) (language : Language) (t : Terminator) → IsTakenFrom plot (item_in language t at text).item (item_in language t at text).item.body
taken_in plot at text Rtl t = tt
taken_in plot at text Hpgl2 t = other_taken plot (first_item (kind_of Full) t at text).item (first_item (kind_of Full) t at text).item.body (first_other t at text)

taken_of : (plot : List ℕ) (at : ℕ) (text : List ℕ) (said : Option (List Said × List ℕ)) (language : Language) (t : Terminator) → text ≡ drop at plot → escape_at text ≡ said
    → IsTakenFrom plot (item_of said language t at text).item (item_of said language t at text).item.body
taken_of plot at text None language t f e = taken_in plot at text language t
taken_of plot at text (Some said) language t f e = taken_by text said e ∙ ap (λ (z : List ℕ). take (1 + length (taken_before said.1 text)) z) f

taken_from : (n : ℕ) (plot : List ℕ) (language : Language) (t : Terminator) (at : ℕ) → All (λ item. IsTakenFrom plot item item.body) (items_from n plot language t at)
taken_from zero plot language t at = All-nil (λ (item : ItemShape). IsTakenFrom plot item item.body)
taken_from (suc n) plot language t at =
    let Taken : List ItemShape → Type 0 = All (λ (item : ItemShape). IsTakenFrom plot item item.body) in
    elim (stepped n plot language t at) [
      | step.past p e ↦ subst Taken (sym e) (All-nil (λ (item : ItemShape). IsTakenFrom plot item item.body))
      | step.silent here quiet e ↦ subst Taken (sym e) (taken_from n plot language t (at + silent_at language plot at))
      | step.found here none e ↦ (let first = item_at plot language t at in
          let rest = terminator_then t first.item in
          subst Taken (sym e) (All-cons (λ (item : ItemShape). IsTakenFrom plot item item.body) first.item
          (items_from n plot (language_at plot language at) rest (at + first.bytes))
          (taken_of plot at (drop at plot) (escape_at (drop at plot)) language t refl refl)
          (taken_from n plot (language_at plot language at) rest (at + first.bytes))))
    ]

pub escapes_are_taken_lem : EscapesAreTaken
escapes_are_taken_lem plot = taken_from (length plot) plot Hpgl2 first_terminator 0
