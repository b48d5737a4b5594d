-- A plot that both profiles read alike has one cut.
use Rattle.std.proofs.Common.{◌≡◌, ℕ, ℤ, zero, suc, ◌+◌, ◌<◌, Bool, true, false, ◌||◌, ◌==◌, if◌then◌else◌, List, [], ◌∷◌, ◌++◌, length, drop, All, refl, arith, ap, sym, ◌∙◌, subst, inl, inr}
use Rattle.std.proofs.lemmas.Bool.{cases_lt}
use Rattle.std.proofs.lemmas.List.Elements.{All-head, All-tail}
use Rattle.hpgl_text.specs.declared.moves.Moves.{Moves as MovesMade}
use Rattle.hpgl_text.specs.declared.mnemonic.Kind.{Kind}
use Rattle.hpgl_text.specs.declared.mnemonic.Kind.TheVariants.{LabelEndWithMode, Moves}
use Rattle.hpgl_text.specs.declared.terminator.Terminator.{Terminator}
use Rattle.hpgl_text.specs.Bytes.{byte, escape, begins_with}
use Rattle.hpgl_text.specs.Terminators.{unprinted, first_terminator, named_terminator, printed_if, begins_with_printing}
use Rattle.hpgl_text.specs.declared.profile.Profile.TheVariants.{Core, Full}
use Rattle.hpgl_text.specs.Mnemonics.{kind_of}
use Rattle.hpgl_text.specs.Shapes.{ItemShape, BodyShape, Params, DamagedMoves, move_instruction, Bad}
use Rattle.hpgl_text.specs.Shapes as shape
use Rattle.hpgl_text.specs.Numbers.{numbers, past_numbers, ends_numbers}
use Rattle.hpgl_text.specs.Items.{Content, content, parameters_length, Found, found, content_of, one_byte_length, code_of, first_item, begins_with_mnemonic}
use Rattle.hpgl_text.specs.Cut.{terminator_after, item_at, next_place, silent_at, items_from}
use Rattle.hpgl_text.specs.Laws.{IsReadAlike, CoreIsInFull, as_in_core, is_only_in_full}
use Rattle.hpgl_text.proofs.Cuts.{none_left, passes_silent, finds_item}

-- a terminator without a mode is not printed
not_printing_in_either : (b : Bool) (x y : BodyShape) → is_only_in_full x ≡ false → is_only_in_full y ≡ false → is_only_in_full (if b then x else y) ≡ false
not_printing_in_either true x y h k = h
not_printing_in_either false x y h k = k

named_is_not_printing : (text : List ℕ) → is_only_in_full (named_terminator text) ≡ false
named_is_not_printing [] = refl
named_is_not_printing (b ∷ text) =
    not_printing_in_either (b == byte ";") (shape.Terminator first_terminator) _ refl
    (not_printing_in_either (b == byte "\0" || b == byte "\n" || b == escape) Bad (shape.Terminator (unprinted b)) refl refl)

-- a mode that does not print changes nothing
same_printed : (printed : Bool) (body : BodyShape) → is_only_in_full body ≡ false → is_only_in_full (printed_if printed body) ≡ false → printed_if printed body ≡ body
same_printed printed (shape.Terminator end) e h = ap (λ (b : Bool). shape.Terminator (record { byte = end.byte; is_printed = b })) (h ∙ sym e)
same_printed printed _ e h = refl

same_by : (semicolon printed : Bool) (body : BodyShape) → is_only_in_full body ≡ false → is_only_in_full (if semicolon then body else printed_if printed body) ≡ false
    → (if semicolon then body else printed_if printed body) ≡ body
same_by true printed body e h = refl
same_by false printed body e h = same_printed printed body e h

-- without a wrong byte moves have the parameters that core reads
same_whole : (is_whole : Bool) (moves : MovesMade) (numbers : List ℤ) → is_only_in_full (if is_whole then Params (move_instruction moves) numbers else DamagedMoves moves numbers) ≡ false
    → (if is_whole then Params (move_instruction moves) numbers else DamagedMoves moves numbers) ≡ (if is_whole then Params (move_instruction moves) numbers else Bad)
same_whole true moves numbers h = refl
same_whole false moves numbers h = absurd (cc h)

same_content : (kind : Kind) (t : Terminator) (at : ℕ) (text : List ℕ) → is_only_in_full (content_of kind t at text).body ≡ false → content_of kind t at text ≡ content_of (as_in_core kind) t at text
same_content LabelEndWithMode t at text h =
    ap (λ (body : BodyShape). content body false (one_byte_length text)) (same_by (begins_with ";" text) (begins_with_printing (drop 1 text)) (named_terminator text) (named_is_not_printing text) h)
same_content (Moves moves) t at text h =
    ap (λ (body : BodyShape). content body false (parameters_length text)) (same_whole (ends_numbers (past_numbers text)) moves (numbers text) h)
same_content _ t at text h = refl

alike_if : (b : Bool) (full core stray : Found) → (IsReadAlike full.item → full ≡ core) → IsReadAlike (if b then full else stray).item → (if b then full else stray) ≡ (if b then core else stray)
alike_if true full core stray same h = same h
alike_if false full core stray same h = refl

-- what an instruction is, by what follows its mnemonic
abbrev found_by : Terminator → ℕ → List ℕ → Kind → Found
found_by t at text kind = found at (code_of text) 2 (content_of kind t (at + 2) (drop 2 text))

same_found : (t : Terminator) (at : ℕ) (text : List ℕ) (full core : Kind) → as_in_core full ≡ core → is_only_in_full (found_by t at text full).item.body ≡ false → found_by t at text full ≡ found_by t at text core
same_found t at text full core e h =
    ap (λ (c : Content). found at (code_of text) 2 c) (same_content full t (at + 2) (drop 2 text) h) ∙ ap (found_by t at text) e

first_alike : (t : Terminator) (at : ℕ) (text : List ℕ) → IsReadAlike (first_item (kind_of Full) t at text).item → first_item (kind_of Full) t at text ≡ first_item (kind_of Core) t at text
first_alike t at text h =
    alike_if (begins_with_mnemonic text) (found_by t at text (kind_of Full (code_of text))) (found_by t at text (kind_of Core (code_of text))) _
    (λ e. same_found t at text (kind_of Full (code_of text)) (kind_of Core (code_of text)) e.kind e.whole) h

-- one more item
alike_found : (n : ℕ) (plot : List ℕ) (before : List ItemShape) (at : ℕ) → at < length plot → silent_at plot at ≡ 0
    → All IsReadAlike (items_from (kind_of Full) (suc n) plot before at)
    → ((after : List ItemShape) (next : ℕ) → All IsReadAlike (items_from (kind_of Full) n plot after next) → items_from (kind_of Full) n plot after next ≡ items_from (kind_of Core) n plot after next)
    → items_from (kind_of Full) (suc n) plot before at ≡ items_from (kind_of Core) (suc n) plot before at
alike_found n plot before at here none h rest =
    let item = item_at (kind_of Full) plot before at in
    let next = next_place (kind_of Full) plot before at in
    let all : All IsReadAlike (item ∷ items_from (kind_of Full) n plot (before ++ item ∷ []) next) = subst (λ (is : List ItemShape). All IsReadAlike is) (finds_item Full n plot before at here none) h in
    let same = first_alike (terminator_after before) at (drop at plot) (All-head IsReadAlike item _ all) in
    finds_item Full n plot before at here none
    ∙ ap (λ (is : List ItemShape). item ∷ is) (rest (before ++ item ∷ []) next (All-tail IsReadAlike item _ all))
    ∙ ap (λ (f : Found). f.item ∷ items_from (kind_of Core) n plot (before ++ f.item ∷ []) (at + f.bytes)) same
    ∙ sym (finds_item Core n plot before at here none)

alike_from : (n : ℕ) (plot : List ℕ) (before : List ItemShape) (at : ℕ) → All IsReadAlike (items_from (kind_of Full) n plot before at) → items_from (kind_of Full) n plot before at ≡ items_from (kind_of Core) n plot before at
alike_from zero plot before at h = refl
alike_from (suc n) plot before at h = elim (cases_lt at (length plot)) [
  | inr past ↦ none_left Full (suc n) plot before at past ∙ sym (none_left Core (suc n) plot before at past)
  | inl here ↦ elim (cases_lt 0 (silent_at plot at)) [
    | inl quiet ↦ (let passed = passes_silent Full n plot before at here quiet in
        passed
        ∙ alike_from n plot before (at + silent_at plot at) (subst (λ (is : List ItemShape). All IsReadAlike is) passed h)
        ∙ sym (passes_silent Core n plot before at here quiet))
    | inr loud ↦ alike_found n plot before at here (omega arith) h (λ after next. alike_from n plot after next)
  ]
]

pub core_is_in_full_lem : CoreIsInFull
core_is_in_full_lem plot h = alike_from (length plot) plot [] 0 h
