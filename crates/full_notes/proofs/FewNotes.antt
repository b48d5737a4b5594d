-- A plot has at most as many notes as bytes in the profile full.
use Rattle.std.proofs.Common.{◌+◌, ◌-◌, ◌<◌, ◌≤◌, zero, suc, List, [], ◌∷◌, ◌++◌, drop, length, length-append, length-drop, ℕ, Option, Some, None, refl, arith}
use Rattle.std.specs.List.{flat_map}
use Rattle.escapes.specs.Commands.{Said}
use Rattle.raster_requests.specs.declared.place.Language.{Language}
use Rattle.raster_requests.specs.declared.place.Language.TheVariants.{Rtl, Hpgl2}
use Rattle.full_text.specs.Cut.{escape_at, taken_before, escape_item, item_in, item_of, items_from, full_cut}
use Rattle.full_text.specs.Left.{silent_at}
use Rattle.full_text.proofs.Steps as step
use Rattle.full_text.proofs.Steps.{stepped, item_at, language_at}
use Rattle.hpgl_text.specs.declared.terminator.Terminator.{Terminator}
use Rattle.hpgl_text.specs.Left.{terminator_then}
use Rattle.hpgl_text.specs.Terminators.{first_terminator}
use Rattle.hpgl_text.specs.Shapes.{ItemShape, BodyShape}
use Rattle.hpgl_text.specs.declared.profile.Profile.TheVariants.{Full}
use Rattle.hpgl_plot.specs.declared.note.NoteKind.{NoteKind}
use Rattle.hpgl_plot.specs.declared.note.NoteKind.TheVariants.{Bad}
use Rattle.hpgl_plot.specs.Notes.{notes_with, note_at, open_noted, entry_note, entries_in}
use Rattle.hpgl_plot.proofs.NoteCounts.{IsFew, few_at, few_on_stray, notes_by}
use Rattle.full_notes.specs.Contexts.{Context, first_context}
use Rattle.full_notes.specs.Notes.{context_after, item_noted, notes_from, notes_told, told_after}

-- there are no more than if something were noted at the first byte of each item
abbrev always : BodyShape → Option NoteKind
always body = Some Bad

one_at : (code : List ℕ) (at : ℕ) (own : Option NoteKind) → length (note_at code at own) ≤ 1
one_at code at None = omega arith
one_at code at (Some kind) = omega arith

most_on : (own : Option NoteKind) (i : ItemShape) → length (notes_with own i) ≤ length (notes_by always i)
most_on own i =
    let rest = flat_map (entry_note i.code) (entries_in i.body) ++ note_at i.code i.at (open_noted i.unended) in
    omega (arith, length-append (note_at i.code i.at own) rest, one_at i.code i.at own)

most_from : (c : Context) (told : List (Option NoteKind)) (items : List ItemShape) → length (notes_from c told items) ≤ length (flat_map (notes_by always) items)
most_from c told [] = omega arith
most_from c told (i ∷ more) =
    let own = item_noted c told i.body in
    let after = context_after c i.body in
    let others = told_after told i.body in
    omega (
      arith,
      length-append (notes_with own i) (notes_from after others more),
      length-append (notes_by always i) (flat_map (notes_by always) more),
      most_on own i,
      most_from after others more,
    )

-- an item has no more notes than bytes
few_of : (said : Option (List Said × List ℕ)) (language : Language) (t : Terminator) (at : ℕ) (text : List ℕ) → 0 < length text
    → IsFew always (item_of said language t at text).item (item_of said language t at text).bytes text
few_of None Hpgl2 t at text h = few_at always Full t at text h
few_of None Rtl t at text h =
    let item : ItemShape = (item_in Rtl t at text).item in
    let few : length (notes_by always item) ≤ 1 = few_on_stray always item refl refl in
    record { in_item = few; in_text = omega (arith, few, h) }
few_of (Some said) language t at text h =
    let item : ItemShape = (escape_item at (taken_before said.1 text)).item in
    let few : length (notes_by always item) ≤ 1 = few_on_stray always item refl refl in
    record { in_item = omega (arith, few); in_text = omega (arith, few, h) }

few_from : (n : ℕ) (plot : List ℕ) (language : Language) (t : Terminator) (at : ℕ)
    → length (flat_map (notes_by always) (items_from n plot language t at)) ≤ length plot - at
few_from zero plot language t at = omega arith
few_from (suc n) plot language t at = elim (stepped n plot language t at) [
  | step.past p e ↦ rw e (omega arith)
  | step.silent here quiet e ↦ rw e (omega (arith, few_from n plot language t (at + silent_at language plot at)))
  | step.found here none e ↦ (let first = item_at plot language t at in
      let few = few_of (escape_at (drop at plot)) language t at (drop at plot) (omega (arith, here, length-drop at plot)) in
      let rest = items_from n plot (language_at plot language at) (terminator_then t first.item) (at + first.bytes) in
      rw e (omega (
        arith,
        length-append (notes_by always first.item) (flat_map (notes_by always) rest),
        few.in_item,
        few.in_text,
        length-drop at plot,
        few_from n plot (language_at plot language at) (terminator_then t first.item) (at + first.bytes),
      )))
]

pub few_notes : (told : List (Option NoteKind)) (plot : List ℕ) → length (notes_told told (full_cut plot)) ≤ length plot
few_notes told plot = omega (arith, most_from first_context told (full_cut plot), few_from (length plot) plot Hpgl2 first_terminator 0)
