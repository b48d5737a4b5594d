-- A plot without ESC is cut as its instructions are.
use Rattle.std.proofs.Common.{◌≡◌, ℕ, zero, suc, ◌+◌, ◌<◌, ◌≤◌, ◌==◌, false, List, [], ◌∷◌, ◌++◌, length, drop, get_or, Option, Some, None, filter_map, refl, arith, ap, sym, ◌∙◌, subst, append-nil}
use Rattle.std.specs.List.{cons_option}
use Rattle.std.proofs.lemmas.Bool.Decides.{nat_tests}
use Rattle.std.proofs.lemmas.List.{get_or-drop}
use Rattle.std.proofs.lemmas.List.Elements.{filter_map-append}
use Rattle.hpgl_text.specs.declared.profile.Profile.TheVariants.{Full}
use Rattle.hpgl_text.specs.declared.terminator.Terminator.{Terminator}
use Rattle.hpgl_text.specs.Bytes.{escape as esc}
use Rattle.hpgl_text.specs.Shapes.{ItemShape}
use Rattle.hpgl_text.specs.Terminators.{first_terminator}
use Rattle.hpgl_text.specs.Mnemonics.{kind_of}
use Rattle.hpgl_text.specs.Items.{Found, first_item}
use Rattle.hpgl_text.specs.Cut.{terminator_set, last_or, terminator_after, silent_at as text_silent_at}
use Rattle.hpgl_text.specs.Left.{set_or, terminator_then}
use Rattle.hpgl_text.specs.Laws.{OneCut, CutFrom, ended, silent, found}
use Rattle.escapes.specs.Commands.{Said}
use Rattle.raster_requests.specs.declared.place.Language.{Language}
use Rattle.raster_requests.specs.declared.place.Language.TheVariants.{Hpgl2}
use Rattle.full_text.specs.Cut.{escape_at, silent_of, item_of, language_of, items_from, full_cut}
use Rattle.full_text.specs.Left.{silent_at}
use Rattle.full_text.specs.Laws.{HasNoEscape, WithoutEscapes}
use Rattle.full_text.proofs.Steps as step
use Rattle.full_text.proofs.Steps.{stepped, item_at, item_takes, language_at}

-- the terminator after one more item
last_push : (d : Terminator) (xs : List Terminator) (x : Terminator) → last_or d (xs ++ x ∷ []) ≡ x
last_push d [] x = refl
last_push d (y ∷ ys) x = last_push y ys x

set_by : (o : Option Terminator) (xs : List Terminator) → set_or o (last_or first_terminator xs) ≡ last_or first_terminator (xs ++ cons_option o [])
set_by None xs = sym (ap (last_or first_terminator) (append-nil xs))
set_by (Some x) xs = sym (last_push first_terminator xs x)

terminator_push : (before : List ItemShape) (item : ItemShape) → terminator_then (terminator_after before) item ≡ terminator_after (before ++ item ∷ [])
terminator_push before item =
    set_by (terminator_set item) (filter_map terminator_set before) ∙ ap (last_or first_terminator) (sym (filter_map-append terminator_set before (item ∷ [])))

-- no escape begins where no ESC is
none_by : (text : List ℕ) → ¬ (get_or text 0 0 ≡ esc) → escape_at text ≡ None
none_by [] h = refl
none_by (b ∷ text) h = let e : (b == esc) ≡ false = grind (arith, nat_tests) in rw e refl

none_at : (plot : List ℕ) (at : ℕ) → HasNoEscape plot → at < length plot → escape_at (drop at plot) ≡ None
none_at plot at h l =
    let here : at ≡ at + 0 = omega arith in
    none_by (drop at plot) (λ e. h at 0 l (ap (λ (k : ℕ). get_or plot k 0) here ∙ sym (get_or-drop at plot 0 0) ∙ e))

-- from a place on
plain_from : (n : ℕ) (plot : List ℕ) (before : List ItemShape) (at : ℕ) → HasNoEscape plot → length plot ≤ n + at
    → CutFrom Full plot before at (items_from n plot Hpgl2 (terminator_after before) at)
plain_from zero plot before at h l = ended (omega arith)
plain_from (suc n) plot before at h l =
    let t : Terminator = terminator_after before in
    let Cut : List ItemShape → Type 0 = CutFrom Full plot before at in
    elim (stepped n plot Hpgl2 t at) [
      | step.past p e ↦ subst Cut (sym e) (ended p)
      | step.silent here quiet e ↦ (let same : silent_at Hpgl2 plot at ≡ text_silent_at plot at = ap (λ
          (z : Option (List Said × List ℕ)). silent_of z Hpgl2 (drop at plot)) (none_at plot at h here) in
          subst Cut (sym (e ∙ ap (λ (k : ℕ). items_from n plot Hpgl2 t (at + k)) same))
          (silent here (omega (arith, quiet, same)) (plain_from n plot before (at + text_silent_at plot at) h (omega (arith, quiet, same)))))
      | step.found here none e ↦ (let none_here = none_at plot at h here in
          let same : silent_at Hpgl2 plot at ≡ text_silent_at plot at = ap (λ
          (z : Option (List Said × List ℕ)). silent_of z Hpgl2 (drop at plot)) none_here in
          let first : Found = first_item (kind_of Full) t at (drop at plot) in
          let item : item_at plot Hpgl2 t at ≡ first = ap (λ (z : Option (List Said × List ℕ)). item_of z Hpgl2 t at (drop at plot)) none_here in
          let language : language_at plot Hpgl2 at ≡ Hpgl2 = ap (λ (z : Option (List Said × List ℕ)). language_of z Hpgl2) none_here in
          let takes : 0 < first.bytes = subst (λ (f : Found). 0 < f.bytes) item (item_takes plot Hpgl2 t at) in
          subst Cut (sym (e
          ∙ ap (λ (f : Found). f.item ∷ items_from n plot (language_at plot Hpgl2 at) (terminator_then t f.item) (at + f.bytes)) item
          ∙ ap (λ (z : Language). first.item ∷ items_from n plot z (terminator_then t first.item) (at + first.bytes)) language
          ∙ ap (λ (u : Terminator). first.item ∷ items_from n plot Hpgl2 u (at + first.bytes)) (terminator_push before first.item)))
          (found here (sym same ∙ none) (plain_from n plot (before ++ first.item ∷ []) (at + first.bytes) h (omega (arith, takes)))))
    ]

pub without_escapes_lem : OneCut → WithoutEscapes
without_escapes_lem one plot h = (one Full plot (full_cut plot)).0 (plain_from (length plot) plot [] 0 h (omega arith))
