-- A plot has at most as many notes as bytes, in either profile and whatever is noted on its items at their first bytes.
use Rattle.std.proofs.Common.{◌≡◌, ◌∙◌, ℕ, ℤ, zero, suc, ◌+◌, ◌-◌, ◌<◌, ◌≤◌, Bool, true, false, ◌&&◌, ◌||◌, ◌==◌, nat_lt, if◌then◌else◌, List, [], ◌∷◌, ◌++◌, length, take, drop, Option, Some, None, refl, arith, ap, length-append, length-drop}
use Rattle.std.specs.List.{flat_map, slice_index}
use Rattle.std.specs.Char.{is_ascii_alphabetic}
use Rattle.std.proofs.lemmas.Bool.Decides.{nat_tests}
use Rattle.std.proofs.lemmas.List.{length-take}
use Rattle.hpgl_text.specs.Bytes.{byte, escape, begins_with}
use Rattle.hpgl_text.specs.Cut.{cut_by, items_from, item_at, next_place, silent_at, terminator_after}
use Rattle.hpgl_text.specs.Bytes.{place_of, has_byte}
use Rattle.hpgl_text.specs.EntryShapes.{EntryShape}
use Rattle.hpgl_text.specs.Items.{Content, content, content_of, one_byte_length, parameters_or, bad, polyline, code_of, first_item, begins_with_mnemonic}
use Rattle.hpgl_text.specs.Mnemonics.{kind_of}
use Rattle.hpgl_text.specs.Numbers.{numbers, past_numbers, ends_numbers}
use Rattle.hpgl_text.specs.Shapes.{ItemShape, BodyShape, Params, Further, DamagedMoves, DamagedCurves, move_instruction, curve_instruction, Terminator, Stray}
use Rattle.hpgl_text.specs.Shapes as shape
use Rattle.hpgl_text.specs.Terminators.{unprinted, first_terminator, named_terminator, printed_if, begins_with_printing, named_with_mode}
use Rattle.hpgl_text.specs.declared.terminator.Terminator.{Terminator as LabelTerminator}
use Rattle.hpgl_text.specs.declared.mnemonic.Kind.{Kind}
use Rattle.hpgl_text.specs.declared.mnemonic.Kind.TheVariants.{Parameters, FurtherParameters, Moves, Curves, Unread, LabelText, LabelEnd, LabelEndWithMode, Polyline, Symbol, SkippedSymbol, Buffer, SkippedBuffer, Display, Comment, WithoutEffect, Unknown}
use Rattle.hpgl_text.specs.declared.profile.Profile.{Profile}
use Rattle.hpgl_text.specs.declared.profile.Profile.TheVariants.{Core}
use Rattle.hpgl_text.proofs.EntryCounts.{entries_few}
use Rattle.hpgl_plot.specs.Laws.{NotesAreFew}
use Rattle.hpgl_plot.specs.declared.note.Note.{Note}
use Rattle.hpgl_plot.specs.Notes.{body_noted, open_noted, note_at, part_noted, entry_note, entries_in, notes_with}
use Rattle.hpgl_plot.specs.declared.note.NoteKind.{NoteKind}

-- a place has at most one note of a kind
one_at : (code : List ℕ) (at : ℕ) (kind : Option NoteKind) → length (note_at code at kind) ≤ 1
one_at code at None = omega arith
one_at code at (Some kind) = omega arith

each_once : (code : List ℕ) (es : List EntryShape) → length (flat_map (entry_note code) es) ≤ length es
each_once code [] = omega arith
each_once code (e ∷ es) = omega (arith, length-append (entry_note code e) (flat_map (entry_note code) es), one_at code e.at (part_noted e.what), each_once code es)

-- what is noted on an item at its first byte, by its body
abbrev pub Noting : Type 0
Noting = BodyShape → Option NoteKind

abbrev pub notes_by : Noting → ItemShape → List Note
notes_by noted item = notes_with (noted item.body) item

-- on an item there are at most two notes of its own, besides those within a PE
few_on : (noted : Noting) (item : ItemShape) → length (notes_by noted item) ≤ 2 + length (entries_in item.body)
few_on noted item =
    let own = note_at item.code item.at (noted item.body) in
    let within = flat_map (entry_note item.code) (entries_in item.body) in
    let ending = note_at item.code item.at (open_noted item.unended) in
    omega (arith, length-append own (within ++ ending), length-append within ending, one_at item.code item.at (noted item.body), each_once item.code (entries_in item.body), one_at item.code item.at (open_noted item.unended))

-- a body that is chosen from two without entries has none
none_in_either : (b : Bool) (x y : BodyShape) → entries_in x ≡ [] → entries_in y ≡ [] → entries_in (if b then x else y) ≡ []
none_in_either true x y h k = h
none_in_either false x y h k = k

none_in_terminator : (text : List ℕ) → entries_in (named_terminator text) ≡ []
none_in_terminator [] = refl
none_in_terminator (b ∷ text) = none_in_either (b == byte ";") (Terminator first_terminator) _ refl
    (none_in_either (b == byte "\0" || b == byte "\n" || b == escape) shape.Bad (Terminator (unprinted b)) refl refl)

same_entries : (printed : Bool) (body : BodyShape) → entries_in (printed_if printed body) ≡ entries_in body
same_entries printed (Terminator end) = refl
same_entries printed _ = refl

none_with_mode : (text : List ℕ) → entries_in (named_with_mode text) ≡ []
none_with_mode text =
    let none = none_in_terminator text in
    none_in_either (begins_with ";" text) (named_terminator text) (printed_if (begins_with_printing (drop 1 text)) (named_terminator text)) none
    (same_entries (begins_with_printing (drop 1 text)) (named_terminator text) ∙ none)

-- what follows a mnemonic has no more entries than bytes
record Fits (content : Content) (text : List ℕ) : Type 0 where
  in_content : length (entries_in content.body) ≤ content.bytes
  in_text : length (entries_in content.body) ≤ length text

none_fits : (content : Content) (text : List ℕ) → entries_in content.body ≡ [] → Fits content text
none_fits content text e = let n = ap length e in record { in_content = omega (arith, n); in_text = omega (arith, n) }

polyline_fits : (at : ℕ) (text : List ℕ) → Fits (polyline at text) text
polyline_fits at text =
    let end = place_of (byte ";") text in
    let few = entries_few (has_byte (byte ";") text) at (take end text) in
    record { in_content = omega (arith, few, length-take end text); in_text = omega (arith, few, length-take end text) }

parameters_fit : (damaged made_of : List ℤ → BodyShape) (text : List ℕ) → entries_in (made_of (numbers text)) ≡ [] → entries_in (damaged (numbers text)) ≡ []
    → Fits (parameters_or damaged made_of text) text
parameters_fit damaged made_of text e d =
    none_fits (parameters_or damaged made_of text) text (none_in_either (ends_numbers (past_numbers text)) (made_of (numbers text)) (damaged (numbers text)) e d)

content_fits : (kind : Kind) (terminator : LabelTerminator) (at : ℕ) (text : List ℕ) → Fits (content_of kind terminator at text) text
content_fits (Parameters instruction) terminator at text = parameters_fit bad (Params instruction) text refl refl
content_fits (FurtherParameters further) terminator at text = parameters_fit bad (Further further) text refl refl
content_fits (Moves moves) terminator at text = parameters_fit (DamagedMoves moves) (Params (move_instruction moves)) text refl refl
content_fits (Curves relative) terminator at text = parameters_fit (DamagedCurves relative) (Further (curve_instruction relative)) text refl refl
content_fits (Unread further) terminator at text = none_fits _ text refl
content_fits LabelText terminator at text = none_fits _ text refl
content_fits LabelEnd terminator at text = none_fits (content (named_terminator text) false (one_byte_length text)) text (none_in_terminator text)
content_fits LabelEndWithMode terminator at text = none_fits (content (named_with_mode text) false (one_byte_length text)) text (none_with_mode text)
content_fits Polyline terminator at text = polyline_fits at text
content_fits Symbol terminator at text = none_fits _ text refl
content_fits SkippedSymbol terminator at text = none_fits _ text refl
content_fits Buffer terminator at text = none_fits _ text refl
content_fits SkippedBuffer terminator at text = none_fits _ text refl
content_fits Display terminator at text = none_fits _ text refl
content_fits Comment terminator at text = none_fits _ text refl
content_fits WithoutEffect terminator at text = none_fits _ text refl
content_fits Unknown terminator at text = none_fits _ text refl

-- two letters take two bytes
not_both : (b : Bool) → (b && false) ≡ true → ⊥
not_both true e = cc e
not_both false e = cc e

two_bytes : (text : List ℕ) → begins_with_mnemonic text ≡ true → 2 ≤ length text
two_bytes [] e = absurd (cc e)
two_bytes (b ∷ []) e = absurd (not_both (is_ascii_alphabetic b) e)
two_bytes (b ∷ c ∷ text) e = omega arith

-- an item has no more notes than bytes
pub record IsFew (noted : Noting) (item : ItemShape) (bytes : ℕ) (text : List ℕ) : Type 0 where
  pub in_item : length (notes_by noted item) ≤ bytes
  pub in_text : length (notes_by noted item) ≤ length text

-- a stray has one note at most
pub few_on_stray : (noted : Noting) (item : ItemShape) → entries_in item.body ≡ [] → item.unended ≡ false → length (notes_by noted item) ≤ 1
few_on_stray noted item none ended =
    let own = note_at item.code item.at (noted item.body) in
    rw (none, ended) (omega (arith, length-append own [], one_at item.code item.at (noted item.body)))

one_is_few : (n bytes : ℕ) → n ≤ 1 → 0 < bytes → n ≤ bytes
one_is_few n bytes h k = omega arith

few_by : (noted : Noting) (mnemonic : Bool) (profile : Profile) (terminator : LabelTerminator) (at : ℕ) (text : List ℕ) → begins_with_mnemonic text ≡ mnemonic → 0 < length text
    → IsFew noted (first_item (kind_of profile) terminator at text).item (first_item (kind_of profile) terminator at text).bytes text
few_by noted true profile terminator at text e h =
    let fits = content_fits (kind_of profile (code_of text)) terminator (at + 2) (drop 2 text) in
    let two = two_bytes text e in
    let content = content_of (kind_of profile (code_of text)) terminator (at + 2) (drop 2 text) in
    let item : ItemShape = record { at = at; code = code_of text; body = content.body; unended = content.unended } in
    rw (e, first_item) (record {
      in_item = omega (arith, few_on noted item, fits.in_content);
      in_text = omega (arith, few_on noted item, fits.in_text, two, length-drop 2 text);
    })
few_by noted false profile terminator at text e h =
    let item : ItemShape = record { at = at; code = 0 ∷ 0 ∷ []; body = Stray (slice_index text 0); unended = false } in
    let few : length (notes_by noted item) ≤ 1 = few_on_stray noted item refl refl in
    rw (e, first_item) (record { in_item = few; in_text = one_is_few _ _ few h })

pub few_at : (noted : Noting) (profile : Profile) (terminator : LabelTerminator) (at : ℕ) (text : List ℕ) → 0 < length text
    → IsFew noted (first_item (kind_of profile) terminator at text).item (first_item (kind_of profile) terminator at text).bytes text
few_at noted profile terminator at text h = few_by noted (begins_with_mnemonic text) profile terminator at text refl h

abbrev FewNext : Noting → Profile → ℕ → Type 0
FewNext noted profile n = (plot : List ℕ) (before : List ItemShape) (at : ℕ) → length (flat_map (notes_by noted) (items_from (kind_of profile) n plot before at)) ≤ length plot - at

few_step : (noted : Noting) (more silent : Bool) (profile : Profile) (n : ℕ) → FewNext noted profile n → (plot : List ℕ) (before : List ItemShape) (at : ℕ) → nat_lt at (length plot) ≡ more
    → length (flat_map (notes_by noted) (elim more [
      | false ↦ []
      | true ↦ elim silent [
        | true ↦ items_from (kind_of profile) n plot before (at + silent_at plot at)
        | false ↦ item_at (kind_of profile) plot before at ∷ items_from (kind_of profile) n plot (before ++ item_at (kind_of profile) plot before at ∷ []) (next_place (kind_of profile) plot before at)
      ]
    ])) ≤ length plot - at
few_step noted false silent profile n next plot before at e = omega arith
few_step noted true true profile n next plot before at e = omega (arith, next plot before (at + silent_at plot at))
few_step noted true false profile n next plot before at e =
    let inside : at < length plot = grind (arith, nat_tests, e) in
    let few = few_at noted profile (terminator_after before) at (drop at plot) (omega (arith, inside, length-drop at plot)) in
    let item = item_at (kind_of profile) plot before at in
    let rest = items_from (kind_of profile) n plot (before ++ item ∷ []) (next_place (kind_of profile) plot before at) in
    omega (arith, length-append (notes_by noted item) (flat_map (notes_by noted) rest), few.in_item, few.in_text, length-drop at plot, next plot (before ++ item ∷ []) (next_place (kind_of profile) plot before at))

few_from : (noted : Noting) (profile : Profile) (n : ℕ) → FewNext noted profile n
few_from noted profile zero plot before at = omega arith
few_from noted profile (suc n) plot before at = few_step noted (nat_lt at (length plot)) (nat_lt 0 (silent_at plot at)) profile n (few_from noted profile n) plot before at refl

pub few_in_profile : (noted : Noting) (profile : Profile) (plot : List ℕ) → length (flat_map (notes_by noted) (cut_by profile plot)) ≤ length plot
few_in_profile noted profile plot = omega (arith, few_from noted profile (length plot) plot [] 0)

pub notes_few : NotesAreFew
notes_few plot = few_in_profile body_noted Core plot
