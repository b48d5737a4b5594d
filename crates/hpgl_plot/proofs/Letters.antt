-- The lines of a label, byte by byte and stroke by stroke.
use Rattle.std.proofs.Common.{◌≡◌, ◌∙◌, ◌≤◌, ◌<◌, ap, ap₂, sym, refl, ℕ, suc, true, inl, inr, List, [], ◌∷◌, ◌++◌, length, map, drop, slice_get, ◌+◌, append_assoc, append-nil, nat_eq, Option, None, Some, ◌+ℤ◌, arith}
use Rattle.std.specs.Prelude.{reverse}
use Rattle.std.proofs.lemmas.List.{map-append, reverse-append}
use Rattle.std.proofs.Math.ListN.{drop_of_length-le}
use Rattle.std.proofs.lemmas.Bool.{cases_Bool, cases_lt}
use Rattle.std.proofs.lemmas.Option.{none-some, slice_get_within, slice_get-get_or, get_or_from_slice_get}
use Rattle.stick_font.specs.declared.cell.Cell.{Cell}
use Rattle.stick_font.specs.declared.label.LabelStroke.{LabelStroke}
use Rattle.stick_font.specs.Labels.{cell_after, is_printed, corner, character_strokes, strokes_in_cells, label_strokes, label_end, offset}
use Rattle.stick_font.specs.Bounds.{moved_on}
use Rattle.exact.specs.declared.spot.Spot.{Spot}
use Rattle.hpgl_plot.specs.declared.state.State.{State}
use Rattle.hpgl_plot.specs.declared.state.Position.{Position}
use Rattle.plot_settings.specs.Meanings.{Write}
use Rattle.hpgl_plot.specs.Bounds.{IsLevel}
use Rattle.hpgl_plot.specs.Frames.{back}
use Rattle.hpgl_plot.specs.Paths.{label_place, stroke_places, pen_at_point, pen_placed, path}
use Rattle.hpgl_plot.specs.OnPage.{turned_vector}
use Rattle.hpgl_plot.specs.Machine.{World, step, moved, travelled, travelled_all, ends_in, put_at}
use Rattle.hpgl_plot.proofs.ItemLists.{next_item}
use Rattle.hpgl_plot.proofs.Polylines.{one_line}
use Rattle.hpgl_plot.proofs.Travels.{IsKept, step_by}

-- the lines of bytes, from a cell on, in a state
abbrev pub lines_from : State → Cell → List ℕ → List (List Spot)
lines_from s cell [] = (label_place s (corner cell) ∷ []) ∷ []
lines_from s cell (byte ∷ bytes) = map (stroke_places s) (character_strokes cell byte) ++ lines_from s (moved_on cell byte) bytes

-- the cell after bytes, from a cell on
abbrev pub cell_from : Cell → List ℕ → Cell
cell_from cell [] = cell
cell_from cell (byte ∷ bytes) = cell_from (moved_on cell byte) bytes

-- the lines of strokes and of an end, and those of a label
abbrev pub write_lines : State → List LabelStroke → Spot → List (List Spot)
write_lines s strokes end = map (stroke_places s) strokes ++ ((label_place s end ∷ []) ∷ [])

abbrev pub label_lines : State → List ℕ → List (List Spot)
label_lines s bytes = write_lines s (label_strokes bytes) (label_end bytes)

reversed : (before : List ℕ) (byte : ℕ) (bytes : List ℕ) → reverse (byte ∷ bytes) ++ before ≡ reverse bytes ++ (byte ∷ before)
reversed before byte bytes =
    ap (λ (l : List ℕ). l ++ before) (reverse-append (byte ∷ []) bytes) ∙ append_assoc (reverse bytes) (byte ∷ []) before

-- are those of the bytes after others
lines_after : (s : State) (before bytes : List ℕ)
    → write_lines s (strokes_in_cells before bytes) (corner (cell_after (reverse bytes ++ before))) ≡ lines_from s (cell_after before) bytes
lines_after s before [] = refl
lines_after s before (byte ∷ bytes) =
    let first = character_strokes (cell_after before) byte in
    let others = strokes_in_cells (byte ∷ before) bytes in
    let end : List (List Spot) = (label_place s (corner (cell_after (reverse bytes ++ (byte ∷ before)))) ∷ []) ∷ [] in
    ap₂ (λ (x : List (List Spot)) (y : List ℕ). x ++ ((label_place s (corner (cell_after y)) ∷ []) ∷ []))
    (map-append (stroke_places s) first others) (reversed before byte bytes)
    ∙ append_assoc (map (stroke_places s) first) (map (stroke_places s) others) end
    ∙ ap (λ (ls : List (List Spot)). map (stroke_places s) first ++ ls) (lines_after s (byte ∷ before) bytes)

-- and of a whole label
pub lines_of_label : (s : State) (bytes : List ℕ) → label_lines s bytes ≡ lines_from s (record { column = 0; line = 0 }) bytes
lines_of_label s bytes =
    ap (λ (y : List ℕ). write_lines s (strokes_in_cells [] bytes) (corner (cell_after y))) (sym (append-nil (reverse bytes)))
    ∙ lines_after s [] bytes

-- the cell after bytes, by the bytes before it
cell_after_all : (before bytes : List ℕ) → cell_after (reverse bytes ++ before) ≡ cell_from (cell_after before) bytes
cell_after_all before [] = refl
cell_after_all before (byte ∷ bytes) = ap (λ (l : List ℕ). cell_after l) (reversed before byte bytes) ∙ cell_after_all (byte ∷ before) bytes

pub end_of_label : (bytes : List ℕ) → corner (cell_from (record { column = 0; line = 0 }) bytes) ≡ label_end bytes
end_of_label bytes =
    ap (λ (l : Cell). corner l) (sym (cell_after_all [] bytes)) ∙ ap (λ (l : List ℕ). corner (cell_after l)) (append-nil (reverse bytes))

-- a byte takes no more than one column and one line
pub next_column : (cell : Cell) (byte : ℕ) → (moved_on cell byte).column ≤ suc cell.column
next_column cell byte = elim (cases_Bool (nat_eq byte 13)) [
  | inl t ↦ rw t (omega arith)
  | inr t ↦ rw t (elim (cases_Bool (is_printed byte)) [
    | inl u ↦ rw u (omega arith)
    | inr u ↦ rw u (omega arith)
  ])
]

pub next_line : (cell : Cell) (byte : ℕ) → (moved_on cell byte).line ≤ suc cell.line
next_line cell byte = elim (cases_Bool (nat_eq byte 10)) [
  | inl t ↦ rw t (omega arith)
  | inr t ↦ rw t (omega arith)
]

-- where a point of a label lies, turned by one and then by the other
pub place_is : (s : State) (p : Spot) (u a o : Spot) → u ≡ offset s.size p → a ≡ turned_vector s.direction u → o ≡ turned_vector s.frame.rotation a
    → record { x = s.place.x +ℤ o.x; y = s.place.y +ℤ o.y } ≡ label_place s p
place_is s p u a o e f g = rw (g, f, e) refl

-- where it lies if the label is level
pub level_place_is : (s : State) (p : Spot) (o : Spot) → o ≡ offset s.size p → IsLevel s
    → record { x = s.place.x +ℤ o.x; y = s.place.y +ℤ o.y } ≡ label_place s p
level_place_is s p o e l = rw (l.direction_is, l.rotation_is, e) refl

-- the places of a stroke
pub stroke_is : (s : State) (t : LabelStroke) (a b : Spot) → a ≡ label_place s t.from → b ≡ label_place s t.to
    → a ∷ (b ∷ []) ≡ stroke_places s t
stroke_is s t a b e f = rw (e, f) refl

-- the pen is not put where its place is out of range
pub put_out : (w : World) (q : Spot) → travelled w true (q ∷ []) ≡ None → put_at w (pen_placed w.page w.state.frame q) ≡ None
put_out w q h = ap (λ (o : Option World). ends_in (moved w.state (pen_placed w.page w.state.frame q)) o) h

-- the pen is put at a place
pub put_there : (w v : World) (q u : Spot) → u ≡ back w.page w.state.frame q
    → travelled w true (q ∷ []) ≡ Some w → ends_in (moved w.state (record { place = q; coordinates = u })) (Some w) ≡ Some v
    → put_at w (pen_placed w.page w.state.frame q) ≡ Some v
put_there w v q u f t m =
    let n : Position = record { place = q; coordinates = u } in
    let same : n ≡ pen_placed w.page w.state.frame q = rw f refl in
    ap (λ (x : Position). put_at w x) (sym same) ∙ ap (λ (o : Option World). ends_in (moved w.state n) o) t ∙ m

-- a label that leaves the range
pub label_out : (w : World) (bytes : List ℕ) → travelled_all w true (label_lines w.state bytes) ≡ None → step w (Write bytes) ≡ None
label_out w bytes h =
    step_by w (Write bytes) (path w.page w.state (Write bytes)) refl
    ∙ ap (λ (o : Option World). ends_in (moved w.state (pen_at_point w.page w.state (label_end bytes))) o) h

-- after the last byte the pen is put at the end
pub label_ends : (w u : World) (bytes : List ℕ) (cell : Cell) (p : Spot) → IsKept w u → p ≡ corner cell → corner cell ≡ label_end bytes
    → travelled_all u true (lines_from w.state cell []) ≡ travelled_all w true (label_lines w.state bytes)
    → step w (Write bytes) ≡ put_at u (pen_at_point u.page u.state p)
label_ends w u bytes cell p k e f same =
    let last : Spot → Spot → Option World =
    λ (x y : Spot). ends_in (moved w.state (pen_at_point w.page w.state x)) (travelled u true (label_place w.state y ∷ [])) in
    step_by w (Write bytes) (path w.page w.state (Write bytes)) refl
    ∙ ap (λ (o : Option World). ends_in (moved w.state (pen_at_point w.page w.state (label_end bytes))) o)
    (sym same ∙ one_line u true (label_place w.state (corner cell) ∷ []))
    ∙ ap (λ (x : Spot). last x (corner cell)) (sym f)
    ∙ ap (λ (x : Spot). last x x) (sym e)
    ∙ rw (k.page_is, k.state_is) refl

-- the lines of strokes, from one of them on
pub one_stroke : (s : State) (ts : List LabelStroke) (k : ℕ) (t : LabelStroke) → slice_get ts k ≡ Some t
    → map (stroke_places s) (drop k ts) ≡ stroke_places s t ∷ map (stroke_places s) (drop (k + 1) ts)
one_stroke s ts k t h =
    ap (λ (us : List LabelStroke). map (stroke_places s) us) (next_item ts k t (slice_get_within ts k t h) (sym (get_or_from_slice_get ts k t t h)))

past_none : (ts : List LabelStroke) (k : ℕ) → k < length ts → slice_get ts k ≡ None → ⊥
past_none [] k l h = absurd (omega arith)
past_none (t ∷ ts) k l h = absurd (none-some _ (sym h ∙ slice_get-get_or (t ∷ ts) k t l))

pub no_more_strokes : (s : State) (ts : List LabelStroke) (k : ℕ) → slice_get ts k ≡ None → map (stroke_places s) (drop k ts) ≡ []
no_more_strokes s ts k h = elim (cases_lt k (length ts)) [
  | inl l ↦ absurd (past_none ts k l h)
  | inr l ↦ ap (λ (us : List LabelStroke). map (stroke_places s) us) (drop_of_length-le ts l)
]
