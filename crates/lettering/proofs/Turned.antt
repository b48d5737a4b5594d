-- Labels of the usual style are the stick font's.
use Rattle.std.proofs.Common.{◌≡◌, ℕ, ◌-◌, ◌*◌, ◌<◌, ◌≤◌, true, false, IsTrue, inl, inr, if◌then◌else◌, nat_eq, List, [], ◌∷◌, ◌++◌, Option, Some, None, map, reverse, refl, sym, ap, ap₂, ◌∙◌, subst, append_assoc, arith, ℤ, pos, neg_ℤ, ◌+ℤ◌, ◌*ℤ◌}
use Rattle.std.proofs.lemmas.Int.{ints}
use Rattle.std.specs.List.{list_all, range_with_len}
use Rattle.std.specs.Option.{option_to_list}
use Rattle.std.proofs.lemmas.Bool.{cases_Bool}
use Rattle.std.proofs.lemmas.Bool.Decides.{nat_tests}
use Rattle.std.proofs.lemmas.List.{append-nil, map-append, reverse-append}
use Rattle.exact.specs.declared.spot.Spot.{Spot}
use Rattle.directions.specs.Directions.{swung, vector_turned}
use Rattle.directions.specs.Laws.{right}
use Rattle.directions.specs.declared.turn.Turn.{Turn}
use Rattle.directions.proofs.Axes.{axes_are_exact_lem}
use Rattle.stick_font.specs.Glyphs.{first_rows, last_rows, glyph_strokes, is_small, column_width}
use Rattle.stick_font.specs.Labels as upright
use Rattle.stick_font.specs.declared.cell.Cell as upright_cell
use Rattle.stick_font.specs.declared.grid.GridStroke.{GridStroke}
use Rattle.stick_font.specs.declared.size.CharacterSize.{CharacterSize}
use Rattle.full_font.specs.Laws.{as_glyph_stroke, is_capital_or_sign}
use Rattle.full_font.specs.declared.grid.GlyphStroke.{GlyphStroke}
use Rattle.full_font.proofs.FontLaws.{capitals_as_before}
use Rattle.full_font.proofs.Tables.{each_of}
use Rattle.character_sets.specs.Ascii.{is_unshifted, reads_ascii}
use Rattle.character_sets.specs.CodePoints.{code_point}
use Rattle.character_sets.specs.Signs.{sign_of}
use Rattle.character_sets.specs.Texts.{signs}
use Rattle.character_sets.specs.declared.set.CharacterSet.TheVariants.{Ascii}
use Rattle.character_sets.specs.declared.sign.Sign.{Sign}
use Rattle.character_sets.specs.declared.sign.Sign.TheVariants.{Printed, CarriageReturn, LineFeed}
use Rattle.character_sets.proofs.AsciiSigns.{ascii_signs, unshifted_signs}
use Rattle.lettering.specs.Columns.{cell_after_signs, first_cell, cell_moved_on, section_letters}
use Rattle.lettering.specs.CoreTexts.{is_core_byte}
use Rattle.lettering.specs.Cells.{cell_offset}
use Rattle.lettering.specs.Labels.{sign_strokes, strokes_from, styled_label_strokes, styled_label_end}
use Rattle.lettering.specs.Laws.{usual_turned, turned_offset, turned_stroke, UsualLabelsAreTurned}
use Rattle.lettering.specs.Letters.{letter_corner, letter_point, letter_stroke, on_grid}
use Rattle.lettering.specs.Styles.{parts_of}
use Rattle.lettering.specs.declared.cell.Cell.{Cell}
use Rattle.lettering.specs.declared.style.Style.{Style}
use Rattle.lettering.proofs.Sizes.{scaled, upright_is}

abbrev vector : ℤ → ℤ → Spot
vector x y = record { x = x; y = y }

-- a cell of the stick font's labels as one of this crate's
abbrev as_cell : upright_cell.Cell → Cell
as_cell cell = record { column = pos cell.column; line = cell.line }

-- what a byte of core is: CR, LF, a printed character that is no small letter, or nothing
core_sign : ℕ → Option Sign
core_sign byte =
    if nat_eq byte 13 then Some CarriageReturn else
    if nat_eq byte 10 then Some LineFeed else
    if upright.is_printed byte then Some (Printed byte) else None

all_signs : map (λ byte. if is_core_byte byte then sign_of Ascii byte else None) (range_with_len 0 128) ≡ map (λ byte. if is_core_byte byte then core_sign byte else None) (range_with_len 0 128)
unfolding code_point core_sign
all_signs = refl

all_blanks : map (λ byte. if upright.is_printed byte then [] else glyph_strokes byte) (range_with_len 0 128) ≡ map (λ byte. []) (range_with_len 0 128)
unfolding first_rows last_rows
all_blanks = refl

below_end : (byte : ℕ) → is_core_byte byte ≡ true → byte < 128
below_end byte core = grind (arith, nat_tests)

sign_is : (byte : ℕ) → is_core_byte byte ≡ true → sign_of Ascii byte ≡ core_sign byte
sign_is byte core =
    let low : 0 ≤ byte = omega arith in
    let high : byte < 128 = below_end byte core in
    let back : byte - 0 ≡ byte = omega arith in
    let e = each_of (λ (b : ℕ). if is_core_byte b then sign_of Ascii b else None) (λ (b : ℕ). if is_core_byte b then core_sign b else None) 0 128 byte all_signs low high in
    rw core at (rw back at e)

blank_is : (byte : ℕ) → is_core_byte byte ≡ true → upright.is_printed byte ≡ false → glyph_strokes byte ≡ []
blank_is byte core blank =
    let e = each_of (λ (b : ℕ). if upright.is_printed b then [] else glyph_strokes b) (λ (b : ℕ). []) 0 128 byte all_blanks (omega arith) (below_end byte core) in
    rw blank at e

-- such a byte, by its sign
data Kind (byte : ℕ) : Type 0 where
  returns : byte ≡ 13 → Kind byte
  feeds : byte ≡ 10 → Kind byte
  prints : nat_eq byte 13 ≡ false → nat_eq byte 10 ≡ false → upright.is_printed byte ≡ true → Kind byte
  nothing : nat_eq byte 13 ≡ false → nat_eq byte 10 ≡ false → upright.is_printed byte ≡ false → Kind byte

kind_of : (byte : ℕ) → Kind byte
kind_of byte = elim (cases_Bool (nat_eq byte 13)) [
  | inl t ↦ returns (grind (arith, nat_tests))
  | inr r ↦ elim (cases_Bool (nat_eq byte 10)) [
    | inl t ↦ feeds (grind (arith, nat_tests))
    | inr f ↦ elim (cases_Bool (upright.is_printed byte)) [
      | inl p ↦ prints r f p
      | inr p ↦ nothing r f p
    ]
  ]
]

-- a printed byte goes on a column, and one that is nothing stays in its cell
printed_cell : (before : List ℕ) (byte : ℕ) → nat_eq byte 13 ≡ false → nat_eq byte 10 ≡ false → upright.is_printed byte ≡ true
    → cell_moved_on (as_cell (upright.cell_after before)) (Printed byte) ≡ as_cell (upright.cell_after (byte ∷ before))
printed_cell before byte r f p =
    rw (r, f, p) (ap (λ (n : ℕ). record { column = pos n; line = upright.line_after before }) (omega arith))

blank_cell : (before : List ℕ) (byte : ℕ) → nat_eq byte 13 ≡ false → nat_eq byte 10 ≡ false → upright.is_printed byte ≡ false
    → upright.cell_after before ≡ upright.cell_after (byte ∷ before)
blank_cell before byte r f p = rw (r, f, p) refl

printed_sign : (byte : ℕ) → is_core_byte byte ≡ true → nat_eq byte 13 ≡ false → nat_eq byte 10 ≡ false → upright.is_printed byte ≡ true → sign_of Ascii byte ≡ Some (Printed byte)
unfolding core_sign
printed_sign byte core r f p = sign_is byte core ∙ rw (r, f, p) refl

blank_sign : (byte : ℕ) → is_core_byte byte ≡ true → nat_eq byte 13 ≡ false → nat_eq byte 10 ≡ false → upright.is_printed byte ≡ false → sign_of Ascii byte ≡ None
unfolding core_sign
blank_sign byte core r f p = sign_is byte core ∙ rw (r, f, p) refl

-- the cells of a text
cells_step : (before : List ℕ) (byte : ℕ) (signs : List Sign) → is_core_byte byte ≡ true → Kind byte
    → cell_after_signs (as_cell (upright.cell_after before)) (option_to_list (sign_of Ascii byte) ++ signs) ≡ cell_after_signs (as_cell (upright.cell_after (byte ∷ before))) signs
cells_step before byte signs core (returns e) =
    subst (λ (b : ℕ). cell_after_signs (as_cell (upright.cell_after before)) (option_to_list (sign_of Ascii b) ++ signs) ≡ cell_after_signs (as_cell (upright.cell_after (b ∷ before))) signs) (sym e) refl
cells_step before byte signs core (feeds e) =
    subst (λ (b : ℕ). cell_after_signs (as_cell (upright.cell_after before)) (option_to_list (sign_of Ascii b) ++ signs) ≡ cell_after_signs (as_cell (upright.cell_after (b ∷ before))) signs) (sym e) refl
cells_step before byte signs core (prints r f p) =
    ap (λ (s : Option Sign). cell_after_signs (as_cell (upright.cell_after before)) (option_to_list s ++ signs)) (printed_sign byte core r f p)
    ∙ ap (λ (cell : Cell). cell_after_signs cell signs) (printed_cell before byte r f p)
cells_step before byte signs core (nothing r f p) =
    ap (λ (s : Option Sign). cell_after_signs (as_cell (upright.cell_after before)) (option_to_list s ++ signs)) (blank_sign byte core r f p)
    ∙ ap (λ (cell : upright_cell.Cell). cell_after_signs (as_cell cell) signs) (blank_cell before byte r f p)

cells_are : (before bytes : List ℕ) → IsTrue (list_all is_core_byte bytes)
    → cell_after_signs (as_cell (upright.cell_after before)) (ascii_signs bytes) ≡ as_cell (upright.cell_after (reverse bytes ++ before))
cells_are before [] core = refl
cells_are before (byte ∷ bytes) core =
    let here : is_core_byte byte ≡ true = grind (arith, nat_tests) in
    let others : IsTrue (list_all is_core_byte bytes) = grind (arith, nat_tests) in
    cells_step before byte (ascii_signs bytes) here (kind_of byte)
    ∙ cells_are (byte ∷ before) bytes others
    ∙ ap (λ (all : List ℕ). as_cell (upright.cell_after all))
    (sym (append_assoc (reverse bytes) (byte ∷ []) before) ∙ ap (λ (front : List ℕ). front ++ before) (sym (reverse-append (byte ∷ []) bytes)))

-- such a text selects no set
plain : (bytes : List ℕ) → IsTrue (list_all is_core_byte bytes) → IsTrue (list_all is_unshifted bytes)
plain [] core = refl
plain (byte ∷ bytes) core =
    let here : is_unshifted byte ≡ true = grind (arith, nat_tests) in
    let others : IsTrue (list_all is_core_byte bytes) = grind (arith, nat_tests) in
    let rest = plain bytes others in
    grind (arith, nat_tests)

module _ (size : CharacterSize) (turn : Turn) where
  abbrev style : Style
  style = usual_turned size turn

  point_is : (cell : upright_cell.Cell) (n : ℤ) (i j : ℕ) → letter_point style (letter_corner style (as_cell cell) n) i (pos j) ≡ turned_offset size turn (upright.grid_point cell 3 i j)
  point_is cell n i j =
      let corner : Spot = letter_corner style (as_cell cell) n in
      let p : Spot = upright.grid_point cell 3 i j in
      let x = scaled 1000000 (on_grid corner.x (pos i)) p.x size.width 12 (omega arith) (omega arith) (omega arith) (omega (arith, ints)) in
      let y = scaled 1000000 (on_grid corner.y (pos j)) p.y size.height 18 (omega arith) (omega arith) (omega arith) (omega (arith, ints)) in
      let z = upright_is (pos 3 *ℤ pos j) size.height in
      let w : upright.share p.x size.width 12 +ℤ pos 0 ≡ upright.share p.x size.width 12 = omega (arith, ints) in
      ap (λ (o : Spot). swung (vector_turned turn right) o)
      (ap₂ vector (ap₂ (λ (a b : ℤ). a +ℤ b) x z ∙ w) y)
      ∙ axes_are_exact_lem.swings turn (upright.offset size p)

  letter_is : (cell : upright_cell.Cell) (n : ℤ) (ss : List GridStroke)
      → map (letter_stroke style (letter_corner style (as_cell cell) n)) (map as_glyph_stroke ss) ≡ map (turned_stroke size turn) (map (upright.stroke_in cell 3) ss)
  letter_is cell n [] = refl
  letter_is cell n (s ∷ ss) =
      ap₂ (λ (x : Spot × Spot) (xs : List (Spot × Spot)). x ∷ xs)
      (ap₂ (λ (a b : Spot). (a, b)) (point_is cell n s.ax s.ay) (point_is cell n s.bx s.by))
      (letter_is cell n ss)

  -- the strokes of a printed byte that is no small letter
  byte_is : (cell : upright_cell.Cell) (n : ℤ) (byte : ℕ) → is_core_byte byte ≡ true → upright.is_printed byte ≡ true
      → sign_strokes style n (as_cell cell) (Printed byte) ≡ map (turned_stroke size turn) (upright.character_strokes cell byte)
  byte_is cell n byte core printed =
      let capital : is_capital_or_sign byte ≡ true = grind (arith, nat_tests) in
      let large : is_small byte ≡ false = grind (arith, nat_tests) in
      let width : column_width byte ≡ 3 = rw large refl in
      ap (λ (ss : List GlyphStroke). map (letter_stroke style (letter_corner style (as_cell cell) n)) ss) (capitals_as_before byte capital)
      ∙ letter_is cell n (glyph_strokes byte)
      ∙ ap (λ (k : ℕ). map (turned_stroke size turn) (map (upright.stroke_in cell k) (glyph_strokes byte))) (sym width)

  -- what goes on from a byte
  abbrev Goes : ℤ → List ℕ → ℕ → List ℕ → Type 0
  Goes n before byte bytes =
      ((m : ℤ) → strokes_from style m (as_cell (upright.cell_after (byte ∷ before))) (ascii_signs bytes) ≡ map (turned_stroke size turn) (upright.strokes_in_cells (byte ∷ before) bytes))
      → strokes_from style n (as_cell (upright.cell_after before)) (ascii_signs (byte ∷ bytes)) ≡ map (turned_stroke size turn) (upright.strokes_in_cells before (byte ∷ bytes))

  goes : (n : ℤ) (before : List ℕ) (byte : ℕ) (bytes : List ℕ) → is_core_byte byte ≡ true → Kind byte → Goes n before byte bytes
  goes n before byte bytes core (returns e) = subst (λ (b : ℕ). Goes n before b bytes) (sym e) (λ rest. rest (section_letters (ascii_signs bytes)))
  goes n before byte bytes core (feeds e) = subst (λ (b : ℕ). Goes n before b bytes) (sym e) (λ rest. rest n)
  goes n before byte bytes core (prints r f p) = λ rest.
      let cell : upright_cell.Cell = upright.cell_after before in
      ap (λ (s : Option Sign). strokes_from style n (as_cell cell) (option_to_list s ++ ascii_signs bytes)) (printed_sign byte core r f p)
      ∙ ap₂ (λ (xs ys : List (Spot × Spot)). xs ++ ys)
      (byte_is cell n byte core p)
      (ap (λ (next : Cell). strokes_from style n next (ascii_signs bytes)) (printed_cell before byte r f p) ∙ rest n)
      ∙ sym (map-append (turned_stroke size turn) (upright.character_strokes cell byte) (upright.strokes_in_cells (byte ∷ before) bytes))
  goes n before byte bytes core (nothing r f p) = λ rest.
      let cell : upright_cell.Cell = upright.cell_after before in
      ap (λ (s : Option Sign). strokes_from style n (as_cell cell) (option_to_list s ++ ascii_signs bytes)) (blank_sign byte core r f p)
      ∙ ap (λ (next : upright_cell.Cell). strokes_from style n (as_cell next) (ascii_signs bytes)) (blank_cell before byte r f p)
      ∙ rest n
      ∙ ap (λ (ss : List GridStroke). map (turned_stroke size turn) (map (upright.stroke_in cell (column_width byte)) ss ++ upright.strokes_in_cells (byte ∷ before) bytes)) (sym (blank_is byte core p))

  strokes_are : (n : ℤ) (before bytes : List ℕ) → IsTrue (list_all is_core_byte bytes)
      → strokes_from style n (as_cell (upright.cell_after before)) (ascii_signs bytes) ≡ map (turned_stroke size turn) (upright.strokes_in_cells before bytes)
  strokes_are n before [] core = refl
  strokes_are n before (byte ∷ bytes) core =
      let here : is_core_byte byte ≡ true = grind (arith, nat_tests) in
      let others : IsTrue (list_all is_core_byte bytes) = grind (arith, nat_tests) in
      goes n before byte bytes here (kind_of byte) (λ m. strokes_are m (byte ∷ before) bytes others)

  end_is : (bytes : List ℕ) → IsTrue (list_all is_core_byte bytes) → styled_label_end style (ascii_signs bytes) ≡ turned_offset size turn (upright.label_end bytes)
  end_is bytes core =
      let column : ℕ = upright.column_after (reverse bytes) in
      let line : ℕ = upright.line_after (reverse bytes) in
      let p : Spot = upright.label_end bytes in
      let cells : cell_after_signs first_cell (ascii_signs bytes) ≡ as_cell (upright.cell_after (reverse bytes)) = cells_are [] bytes core ∙ ap (λ (all : List ℕ). as_cell (upright.cell_after all)) (append-nil (reverse bytes)) in
      let x = scaled 1000000000000 (parts_of style (vector (pos 1000000 *ℤ pos column) (pos 0))).x p.x size.width 12 (omega arith) (omega arith) (omega arith) (omega (arith, ints)) in
      let y = scaled 1000000000000 (parts_of style (vector (pos 0) (neg_ℤ (pos (1000000 * line))))).y p.y size.height 18 (omega arith) (omega arith) (omega arith) (omega (arith, ints)) in
      ap (λ (cell : Cell). cell_offset style (pos 1000000 *ℤ cell.column) (pos (1000000 * cell.line))) cells
      ∙ ap (λ (o : Spot). swung (vector_turned turn right) o) (ap₂ vector x y)
      ∙ axes_are_exact_lem.swings turn (upright.offset size p)

pub usual_labels_are_turned_lem : UsualLabelsAreTurned
usual_labels_are_turned_lem size turn encoding sets text core =
    let reads : IsTrue (reads_ascii encoding sets) = grind (arith, nat_tests) in
    let bytes : IsTrue (list_all is_core_byte text) = grind (arith, nat_tests) in
    let as_ascii : signs encoding sets text ≡ ascii_signs text = unshifted_signs encoding sets text reads (plain text bytes) in
    record {
      strokes =
          ap (λ (all : List Sign). styled_label_strokes (usual_turned size turn) all) as_ascii
          ∙ strokes_are size turn (section_letters (ascii_signs text)) [] text bytes;
      end =
          ap (λ (all : List Sign). styled_label_end (usual_turned size turn) all) as_ascii
          ∙ end_is size turn text bytes;
    }
