-- The reader finds the entities of a document as they were written.
use Rattle.std.proofs.Common.{◌≡◌, ◌∙◌, ℕ, zero, suc, ◌+◌, ◌<◌, ◌==◌, ◌&&◌, nat_lt, not, Bool, true, false, cond, List, [], ◌∷◌, ◌++◌, length, Option, Some, None, codes, refl, ap, arith, append_assoc, append-nil}
use Rattle.std.proofs.lemmas.Bool.{and_parts}
use Rattle.std.proofs.lemmas.Bool.Decides.{nat_tests}
use Rattle.std.specs.Fmt.{digits}
use Rattle.std.specs.List.{All, list_any}
use Rattle.areas.specs.declared.area.Area.{Area}
use Rattle.labels.specs.Labels.{LabelShape}
use Rattle.pieces.specs.Readings.{◌>>=◌}
use Rattle.plot_page.specs.Segments.{Segment}
use Rattle.plot_page.specs.declared.colour.Colour.{Colour}
use Rattle.plot_page.specs.declared.page.Page.{Page}
use Rattle.plot_page.specs.declared.pens.PenSet.{PenSet}
use Rattle.stroke_runs.specs.Ranges.{IsInRange}
use Rattle.svg.specs.Sheets.{Sheet, labelled_sheets}
use Rattle.dxf.specs.Colours.{colour_number}
use Rattle.dxf.specs.Documents.{dxf_bytes, dxf_sheets_bytes, foot_text, header_text, line_types_text, section_end, section_start, sheets_text, side, start_text, styles_text, table_end}
use Rattle.dxf.specs.Groups.{group}
use Rattle.dxf.specs.Layers.{colour_of, entry_if, layer_entry, layer_name, layers_of, layers_text, pen_entries}
use Rattle.dxf.specs.Parts.{parts_text}
use Rattle.dxf.specs.Reader.{Entity, Entry, Group, begins_entities, cut_groups, entities, groups, read_dxf, section_of_entities, up_to_end}
use Rattle.dxf.specs.Readings.{entities_of, entities_of_sheets}
use Rattle.dxf.specs.Readable.{IsReadable}
use Rattle.dxf.specs.declared.layers.Layers.{Layers}
use Rattle.dxf.specs.declared.sheets.Section.TheVariants.{Layers as LayersPart, Entities}
use Rattle.dxf.proofs.EntityReads.{Shows, count_written, name_lacks, size_written}
use Rattle.dxf.proofs.GroupReads.{AreEntries, AreFields, IsField, entries_read, entries_text, is_newline}
use Rattle.dxf.proofs.PartReads.{near_of, parts_shown, sheets_near, sheets_shown}
use Rattle.dxf.proofs.PieceSizes.{range_of}
use Rattle.dxf.proofs.Writes.{Begins, Writes, begins, both_written, ends, goes_on, nothing_written, one_field}

-- entries without variables can be read, if these tests pass
abbrev is_field : Group → Bool
is_field g = (nat_lt g.code 1000 && not (g.code == 0)) && not (list_any is_newline g.value)

abbrev are_fields : List Group → Bool
are_fields [] = true
are_fields (g ∷ gs) = is_field g && are_fields gs

abbrev are_entries : List Entry → Bool
are_entries [] = true
are_entries (e ∷ es) = (not (list_any is_newline e.kind) && are_fields e.fields) && are_entries es

not_true : (b : Bool) → not b ≡ true → b ≡ false
not_true true h = cc
not_true false h = refl

field_good : (g : Group) → is_field g ≡ true → IsField g
field_good g h =
    let both = and_parts (nat_lt g.code 1000 && not (g.code == 0)) (not (list_any is_newline g.value)) h in
    let code = and_parts (nat_lt g.code 1000) (not (g.code == 0)) both.0 in
    let small : g.code < 1000 = grind (arith, nat_tests, code.0) in
    record { good = record { code = omega (arith, small); value = not_true (list_any is_newline g.value) both.1 }; within = not_true (g.code == 0) code.1 }

fields_good : (gs : List Group) → are_fields gs ≡ true → AreFields gs
fields_good [] h = tt
fields_good (g ∷ gs) h = (let both = and_parts (is_field g) (are_fields gs) h in (field_good g both.0, fields_good gs both.1))

entries_good : (es : List Entry) → are_entries es ≡ true → AreEntries es
entries_good [] h = tt
entries_good (e ∷ es) h =
    let both = and_parts (not (list_any is_newline e.kind) && are_fields e.fields) (are_entries es) h in
    let own = and_parts (not (list_any is_newline e.kind)) (are_fields e.fields) both.0 in
    (record { kind = not_true (list_any is_newline e.kind) own.0; fields = fields_good e.fields own.1 }, entries_good es both.1)

-- a text of entries that come before the section of entities
record Skips (text : List ℕ) : Type 0 where
  entries : List Entry
  writes : Writes text entries
  passed : (rest : List Entry) → section_of_entities (entries ++ rest) ≡ section_of_entities rest

skips_none : Skips []
skips_none = record { entries = []; writes = nothing_written; passed = λ rest. refl }

skips_both : {t u : List ℕ} → Skips t → Skips u → Skips (t ++ u)
skips_both {t} {u} s r = record {
  entries = s.entries ++ r.entries;
  writes = both_written s.writes r.writes;
  passed = λ rest. ap (λ (es : List Entry). section_of_entities es) (append_assoc s.entries r.entries rest) ∙ s.passed (r.entries ++ rest) ∙ r.passed rest;
}

abbrev g : ℕ → List ℕ → Group
g code value = record { code = code; value = value }

-- a text without variables, of entries that come before the section of entities
fixed : (text : List ℕ) (es : List Entry) → text ≡ entries_text es → are_entries es ≡ true → ((rest : List Entry) → section_of_entities (es ++ rest) ≡ section_of_entities rest) → Skips text
fixed text es is good passed = record { entries = es; writes = record { is = is; good = entries_good es good }; passed = passed }

-- the table of line types, and that of styles
abbrev line_types : List Entry
line_types =
    record { kind = codes "TABLE"; fields = g 2 (codes "LTYPE") ∷ g 70 (codes "1") ∷ [] }
    ∷ record { kind = codes "LTYPE"; fields = g 2 (codes "CONTINUOUS") ∷ g 70 (codes "0") ∷ g 3 (codes "Solid line") ∷ g 72 (codes "65") ∷ g 73 (codes "0") ∷ g 40 (codes "0") ∷ [] }
    ∷ record { kind = codes "ENDTAB"; fields = [] } ∷ []

line_types_skipped : Skips line_types_text
unfolding digits
line_types_skipped = fixed line_types_text line_types refl refl (λ rest. refl)

abbrev middle : List Entry
middle =
    record { kind = codes "ENDTAB"; fields = [] }
    ∷ record { kind = codes "TABLE"; fields = g 2 (codes "STYLE") ∷ g 70 (codes "1") ∷ [] }
    ∷ record { kind = codes "STYLE"; fields = g 2 (codes "STANDARD") ∷ g 70 (codes "0") ∷ g 40 (codes "0") ∷ g 41 (codes "1") ∷ g 50 (codes "0") ∷ g 71 (codes "0") ∷ g 42 (codes "1") ∷ g 3 (codes "txt") ∷ g 4 [] ∷ [] }
    ∷ record { kind = codes "ENDTAB"; fields = [] }
    ∷ record { kind = codes "ENDSEC"; fields = [] } ∷ []

middle_skipped : Skips (table_end ++ styles_text ++ section_end)
unfolding digits
middle_skipped = fixed (table_end ++ styles_text ++ section_end) middle refl refl (λ rest. refl)

-- an entry before the section of entities
one_skipped : {text : List ℕ} (e : Entry) → Begins text e → begins_entities e ≡ false → Skips text
one_skipped {text} e b h = record {
  entries = e ∷ [];
  writes = ends b;
  passed = λ rest. ap (λ (t : Bool). cond t (up_to_end rest) (section_of_entities rest)) h;
}

-- a word in a field
word : {t : List ℕ} {kind : List ℕ} {gs : List Group} (code : ℕ) (value : List ℕ) → is_field (g code value) ≡ true → Begins t (record { kind = kind; fields = gs }) → Begins (t ++ group code value) (record { kind = kind; fields = gs ++ g code value ∷ [] })
word code value h b =
    let f = field_good (g code value) h in
    goes_on b (one_field code value f.good.code f.within f.good.value)

-- the layers
layer_skipped : (name : List ℕ) (number : ℕ) → list_any is_newline name ≡ false → Skips (layer_entry name number)
layer_skipped name number h =
    let named = goes_on (begins (codes "LAYER") refl) (one_field 2 name (omega arith) refl h) in
    let flagged = goes_on named (count_written 70 0 (omega arith) refl) in
    let coloured = goes_on flagged (count_written 62 number (omega arith) refl) in
    one_skipped _ (word 6 (codes "CONTINUOUS") refl coloured) refl

entry_skipped : (layers : Layers) (pen : ℕ) (o : Option Colour) → Skips (entry_if (layer_name layers pen) o)
entry_skipped layers pen None = skips_none
entry_skipped layers pen (Some c) = layer_skipped (layer_name layers pen) (colour_number c) (name_lacks layers pen)

entries_skipped : (layers : Layers) (pen count : ℕ) → Skips (pen_entries layers pen count)
entries_skipped layers pen zero = skips_none
entries_skipped layers pen (suc count) = skips_both (entry_skipped layers pen (colour_of layers.colours pen)) (entries_skipped layers (pen + 1) count)

layers_skipped : (layers : Layers) → Skips (layers_text layers)
layers_skipped layers = entries_skipped layers 1 255

sheets_skipped : (pens : PenSet) (before : ℕ) (ss : List Sheet) → Skips (sheets_text LayersPart pens before ss)
sheets_skipped pens before [] = skips_none
sheets_skipped pens before (s ∷ ss) = skips_both (layers_skipped (layers_of (Some (before + 1)) pens s.strokes)) (sheets_skipped pens (before + 1) ss)

-- the header
ends_section : Begins section_end (record { kind = codes "ENDSEC"; fields = [] })
ends_section = begins (codes "ENDSEC") refl

header_skipped : (page : Page) → Skips (header_text page)
header_skipped page =
    let version = word 1 (codes "AC1009") refl (word 9 (codes "$ACADVER") refl (word 2 (codes "HEADER") refl (begins (codes "SECTION") refl))) in
    let low = word 9 (codes "$EXTMIN") refl version in
    let x = goes_on low (count_written 10 0 (omega arith) refl) in
    let y = goes_on x (count_written 20 0 (omega arith) refl) in
    let z = goes_on y (count_written 30 0 (omega arith) refl) in
    let high = word 9 (codes "$EXTMAX") refl z in
    let width = goes_on high (size_written 10 (side page.width) (omega arith) refl) in
    let height = goes_on width (size_written 20 (side page.height) (omega arith) refl) in
    let flat = goes_on height (count_written 30 0 (omega arith) refl) in
    let unit = word 9 (codes "$INSUNITS") refl flat in
    let all = goes_on unit (count_written 70 4 (omega arith) refl) in
    skips_both (one_skipped _ all refl) (one_skipped _ ends_section refl)

start_skipped : (page : Page) → Skips (start_text page)
start_skipped page =
    let tables = one_skipped _ (word 2 (codes "TABLES") refl (begins (codes "SECTION") refl)) refl in
    let table = one_skipped _ (goes_on (word 2 (codes "LAYER") refl (begins (codes "TABLE") refl)) (count_written 70 32767 (omega arith) refl)) refl in
    skips_both (skips_both (skips_both (skips_both (header_skipped page) tables) line_types_skipped) table) (layer_skipped (codes "0") 7 refl)

-- the section of entities, and the foot
abbrev entities_entry : Entry
entities_entry = record { kind = codes "SECTION"; fields = g 2 (codes "ENTITIES") ∷ [] }

abbrev foot : List Entry
foot = record { kind = codes "ENDSEC"; fields = [] } ∷ record { kind = codes "EOF"; fields = [] } ∷ []

entities_begin : Writes (section_start (codes "ENTITIES")) (entities_entry ∷ [])
entities_begin = ends (word 2 (codes "ENTITIES") refl (begins (codes "SECTION") refl))

foot_written : Writes foot_text foot
foot_written = both_written (ends ends_section) (ends (begins (codes "EOF") refl))

-- s is the start, l the layers, m what follows them, e the start of the entities, p the parts, f the foot
six : (s l m e p f : List ℕ) → s ++ l ++ (m ++ e) ++ p ++ f ≡ (s ++ l ++ m) ++ (e ++ (p ++ f))
six s l m e p f = simp append_assoc

all_read : (start parts : List ℕ) (xs : List Entity) → Skips start → Shows parts xs → groups (start ++ (section_start (codes "ENTITIES") ++ (parts ++ foot_text))) >>= (λ gs. entities (section_of_entities (cut_groups gs).entries)) ≡ Some xs
all_read start parts xs s r =
    let rest = both_written entities_begin (both_written r.writes foot_written) in
    let all = both_written s.writes rest in
    ap (λ (z : List ℕ). groups z >>= (λ gs. entities (section_of_entities (cut_groups gs).entries))) all.is
    ∙ entries_read (λ es. entities (section_of_entities es)) (s.entries ++ (entities_entry ∷ (r.entries ++ foot))) all.good
    ∙ ap (λ (es : List Entry). entities es) (s.passed (entities_entry ∷ (r.entries ++ foot)) ∙ r.inside foot)
    ∙ r.reads [] ∙ ap (λ (ys : List Entity). Some ys) (append-nil xs)

pub document_read : (page : Page) (pens : PenSet) (strokes : List Segment) (areas : List Area) (labels : List LabelShape) → All IsInRange strokes → All (λ l. All IsReadable l.lines) labels
    → read_dxf (dxf_bytes page pens strokes areas labels) ≡ Some (entities_of None pens strokes areas labels)
unfolding read_dxf
document_read page pens strokes areas labels h k =
    let layers = layers_of None pens strokes in
    let parts = parts_text layers pens strokes areas labels in
    let head = skips_both (skips_both (start_skipped page) (layers_skipped layers)) middle_skipped in
    ap (λ (z : List ℕ). groups z >>= (λ gs. entities (section_of_entities (cut_groups gs).entries)))
    (six (start_text page) (layers_text layers) (table_end ++ styles_text ++ section_end) (section_start (codes "ENTITIES")) parts foot_text)
    ∙ all_read _ parts (entities_of None pens strokes areas labels) head (parts_shown None pens strokes areas labels (range_of strokes h) (near_of labels k))

pub sheets_read : (page : Page) (pens : PenSet) (strokes : List Segment) (areas : List Area) (ends : List ℕ) (labels : List LabelShape) → All IsInRange strokes → All (λ l. All IsReadable l.lines) labels
    → read_dxf (dxf_sheets_bytes page pens strokes areas ends labels) ≡ Some (entities_of_sheets pens 0 (labelled_sheets strokes areas ends labels))
unfolding read_dxf
sheets_read page pens strokes areas ends labels h k =
    let sheets = labelled_sheets strokes areas ends labels in
    let parts = sheets_text Entities pens 0 sheets in
    let head = skips_both (skips_both (start_skipped page) (sheets_skipped pens 0 sheets)) middle_skipped in
    let near = sheets_near strokes areas 0 (ends ++ length strokes ∷ []) labels (range_of strokes h) (near_of labels k) in
    ap (λ (z : List ℕ). groups z >>= (λ gs. entities (section_of_entities (cut_groups gs).entries)))
    (six (start_text page) (sheets_text LayersPart pens 0 sheets) (table_end ++ styles_text ++ section_end) (section_start (codes "ENTITIES")) parts foot_text)
    ∙ all_read _ parts (entities_of_sheets pens 0 sheets) head (sheets_shown pens 0 sheets near)
