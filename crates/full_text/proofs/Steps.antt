-- The cut, a step at a time.
use Rattle.std.proofs.Common.{◌≡◌, ℕ, zero, suc, ◌+◌, ◌<◌, ◌≤◌, Bool, true, false, nat_lt, if◌then◌else◌, List, [], ◌∷◌, length, drop, Option, Some, None, MatchOption, refl, arith, ap, ap₂, sym, ◌∙◌, inl, inr}
use Rattle.std.proofs.lemmas.Bool.{cases_lt}
use Rattle.std.proofs.lemmas.Bool.Decides.{nat_tests}
use Rattle.hpgl_text.specs.declared.terminator.Terminator.{Terminator}
use Rattle.hpgl_text.specs.Shapes.{ItemShape}
use Rattle.hpgl_text.specs.Items.{Found, begins_with_mnemonic}
use Rattle.hpgl_text.specs.Cut.{terminator_set}
use Rattle.hpgl_text.specs.Left.{set_or, terminator_then}
use Rattle.escapes.specs.Commands.{Said}
use Rattle.raster_requests.specs.declared.place.Language.{Language}
use Rattle.raster_requests.specs.declared.place.Language.TheVariants.{Rtl, Hpgl2}
use Rattle.full_text.specs.Cut.{escape_at, item_in, item_of, language_of, items_from}
use Rattle.full_text.specs.Left.{left_from, silent_at}

pub is_less : (m n : ℕ) → m < n → nat_lt m n ≡ true
is_less m n h = grind (arith, nat_tests)

pub is_not_less : (m n : ℕ) → n ≤ m → nat_lt m n ≡ false
is_not_less m n h = grind (arith, nat_tests)

-- the item at a place, and the language after it
abbrev pub item_at : List ℕ → Language → Terminator → ℕ → Found
item_at plot language t at = item_of (escape_at (drop at plot)) language t at (drop at plot)

abbrev pub language_at : List ℕ → Language → ℕ → Language
language_at plot language at = language_of (escape_at (drop at plot)) language

-- at the end there is nothing more
pub none_left : (n : ℕ) (plot : List ℕ) (language : Language) (t : Terminator) (at : ℕ) → length plot ≤ at → items_from n plot language t at ≡ []
none_left zero plot language t at h = refl
none_left (suc n) plot language t at h = let e = is_not_less at (length plot) h in rw (e, items_from) refl

pub passes_silent : (n : ℕ) (plot : List ℕ) (language : Language) (t : Terminator) (at : ℕ) → at < length plot → 0 < silent_at language plot at
    → items_from (suc n) plot language t at ≡ items_from n plot language t (at + silent_at language plot at)
passes_silent n plot language t at h s = let e = is_less at (length plot) h in let f = is_less 0 (silent_at language plot at) s in rw (e, f, items_from) refl

pub finds_item : (n : ℕ) (plot : List ℕ) (language : Language) (t : Terminator) (at : ℕ) → at < length plot → silent_at language plot at ≡ 0
    → items_from (suc n) plot language t at ≡ (item_at plot language t at).item ∷ items_from n plot (language_at plot language at) (terminator_then t (item_at plot language t at).item) (at + (item_at plot language t at).bytes)
finds_item n plot language t at h s = let e = is_less at (length plot) h in let f = is_not_less 0 (silent_at language plot at) (omega arith) in rw (e, f, items_from) refl

-- an item takes a byte at least
pub takes_by : (mnemonic : Bool) (x y : Found) → 0 < x.bytes → 0 < y.bytes → 0 < (if mnemonic then x else y).bytes
takes_by true x y h k = h
takes_by false x y h k = k

takes_in : (language : Language) (t : Terminator) (at : ℕ) (text : List ℕ) → 0 < (item_in language t at text).bytes
takes_in Rtl t at text = omega arith
takes_in Hpgl2 t at text = takes_by (begins_with_mnemonic text) _ _ (omega arith) (omega arith)

takes_of : (said : Option (List Said × List ℕ)) (language : Language) (t : Terminator) (at : ℕ) (text : List ℕ) → 0 < (item_of said language t at text).bytes
takes_of None language t at text = takes_in language t at text
takes_of (Some said) language t at text = omega arith

pub item_takes : (plot : List ℕ) (language : Language) (t : Terminator) (at : ℕ) → 0 < (item_at plot language t at).bytes
item_takes plot language t at = takes_of (escape_at (drop at plot)) language t at (drop at plot)

-- a step is silent, or an item, or there is none
pub data Stepped (n : ℕ) (plot : List ℕ) (language : Language) (t : Terminator) (at : ℕ) : Type 0 where
  past : length plot ≤ at → items_from (suc n) plot language t at ≡ [] → Stepped n plot language t at
  silent : at < length plot → 0 < silent_at language plot at
      → items_from (suc n) plot language t at ≡ items_from n plot language t (at + silent_at language plot at) → Stepped n plot language t at
  found : at < length plot → silent_at language plot at ≡ 0
      → items_from (suc n) plot language t at ≡ (item_at plot language t at).item ∷ items_from n plot (language_at plot language at) (terminator_then t (item_at plot language t at).item) (at + (item_at plot language t at).bytes)
      → Stepped n plot language t at

pub stepped : (n : ℕ) (plot : List ℕ) (language : Language) (t : Terminator) (at : ℕ) → Stepped n plot language t at
stepped n plot language t at = elim (cases_lt at (length plot)) [
  | inr h ↦ past h (none_left (suc n) plot language t at h)
  | inl here ↦ elim (cases_lt 0 (silent_at language plot at)) [
    | inl quiet ↦ silent here quiet (passes_silent n plot language t at here quiet)
    | inr loud ↦ (let none : silent_at language plot at ≡ 0 = omega arith in found here none (finds_item n plot language t at here none))
  ]
]

-- enough steps are as good as any more
same_left : (n m : ℕ) (plot : List ℕ) (language : Language) (t : Terminator) (at : ℕ) → length plot ≤ n + at → length plot ≤ m + at → items_from n plot language t at ≡ items_from m plot language t at
same_left zero m plot language t at h k = sym (none_left m plot language t at (omega arith))
same_left (suc n) zero plot language t at h k = none_left (suc n) plot language t at (omega arith)
same_left (suc n) (suc m) plot language t at h k = elim (stepped n plot language t at) [
  | past p e ↦ e ∙ sym (none_left (suc m) plot language t at p)
  | silent here quiet e ↦ e ∙ same_left n m plot language t (at + silent_at language plot at) (omega arith) (omega arith) ∙ sym (passes_silent m plot language t at here quiet)
  | found here none e ↦ (let first = item_at plot language t at in
      let takes = item_takes plot language t at in
      e
      ∙ ap (λ (is : List ItemShape). first.item ∷ is) (same_left n m plot (language_at plot language at) (terminator_then t first.item) (at + first.bytes) (omega (arith, takes)) (omega (arith, takes)))
      ∙ sym (finds_item m plot language t at here none))
]

-- past the end nothing is left
pub ends : (plot : List ℕ) (language : Language) (t : Terminator) (at : ℕ) → length plot ≤ at → left_from plot language t at ≡ []
ends plot language t at h = none_left (length plot) plot language t at h

passes_by : (n m : ℕ) (plot : List ℕ) (language : Language) (t : Terminator) (at : ℕ) → length plot ≤ n + at → length plot ≤ m + at → at < length plot → 0 < silent_at language plot at
    → items_from n plot language t at ≡ items_from m plot language t (at + silent_at language plot at)
passes_by zero m plot language t at h k l s = absurd (omega arith)
passes_by (suc n) m plot language t at h k l s = passes_silent n plot language t at l s ∙ same_left n m plot language t (at + silent_at language plot at) (omega arith) (omega arith)

-- what is silent is passed
pub passes : (plot : List ℕ) (language : Language) (t : Terminator) (at : ℕ) → at < length plot → 0 < silent_at language plot at → left_from plot language t at ≡ left_from plot language t (at + silent_at language plot at)
passes plot language t at l s = passes_by (length plot) (length plot) plot language t at (omega arith) (omega arith) l s

finds_by : (n m : ℕ) (plot : List ℕ) (language : Language) (t : Terminator) (at : ℕ) → length plot ≤ n + at → length plot ≤ m + at → at < length plot → silent_at language plot at ≡ 0
    → items_from n plot language t at ≡ (item_at plot language t at).item ∷ items_from m plot (language_at plot language at) (terminator_then t (item_at plot language t at).item) (at + (item_at plot language t at).bytes)
finds_by zero m plot language t at h k l s = absurd (omega arith)
finds_by (suc n) m plot language t at h k l s =
    let first = item_at plot language t at in
    let takes = item_takes plot language t at in
    finds_item n plot language t at l s
    ∙ ap (λ (is : List ItemShape). first.item ∷ is) (same_left n m plot (language_at plot language at) (terminator_then t first.item) (at + first.bytes) (omega (arith, takes)) (omega (arith, takes)))

-- the terminator that a call makes of an item
set_is : (o : Option Terminator) (t u : Terminator) → MatchOption o (u ≡ t) (λ end. u ≡ end) → set_or o t ≡ u
set_is None t u h = sym h
set_is (Some end) t u h = sym h

-- the item that was read, the language and the terminator after it, and how many bytes it takes
pub found_next : (plot : List ℕ) (language next : Language) (t u : Terminator) (at n : ℕ) (item : ItemShape) → at < length plot → silent_at language plot at ≡ 0
    → item ≡ (item_at plot language t at).item → n ≡ (item_at plot language t at).bytes → next ≡ language_at plot language at
    → MatchOption (terminator_set item) (u ≡ t) (λ end. u ≡ end) → left_from plot language t at ≡ item ∷ left_from plot next u (at + n)
found_next plot language next t u at n item l s e m w o =
    let v : terminator_then t item ≡ u = set_is (terminator_set item) t u o in
    finds_by (length plot) (length plot) plot language t at (omega arith) (omega arith) l s
    ∙ ap (λ (i : ItemShape). i ∷ left_from plot (language_at plot language at) (terminator_then t i) (at + (item_at plot language t at).bytes)) (sym e)
    ∙ ap (λ (z : Language). item ∷ left_from plot z (terminator_then t item) (at + (item_at plot language t at).bytes)) (sym w)
    ∙ ap₂ (λ (v : Terminator) (k : ℕ). item ∷ left_from plot next v (at + k)) v (sym m)
