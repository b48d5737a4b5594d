-- The bytes of a document, read back, are the shapes that are drawn.
use Rattle.std.proofs.Common.{◌≡◌, ◌∙◌, ℕ, ◌+◌, ◌*◌, ◌<◌, ◌≤◌, ℤ, pos, ◌-ℤ◌, nat_abs, Bool, true, false, cond, List, [], ◌∷◌, ◌++◌, map, Some, None, refl, ap, subst, arith, append_assoc, append-nil}
use Rattle.std.proofs.lemmas.Int.{ints}
use Rattle.std.proofs.lemmas.List.Concat.{flat_map-append}
use Rattle.std.proofs.lemmas.List.Elements.{All-cons, All-head, All-nil, All-tail}
use Rattle.std.specs.BTreeSet.{insert_key}
use Rattle.std.specs.List.{All}
use Rattle.std.specs.Ordering.{match_ordering}
use Rattle.std.specs.declared.cmp.Ordering.{Ordering}
use Rattle.std.specs.declared.cmp.Ordering.TheVariants.{Less, Equal, Greater}
use Rattle.areas.specs.Shapes.{AreApart, NoneGoesOn, Shape, shapes, stroke_shape}
use Rattle.areas.specs.declared.area.Area.{Area}
use Rattle.labels.specs.Labels.{LabelShape}
use Rattle.plot_page.specs.Segments.{Segment}
use Rattle.plot_page.specs.declared.page.Page.{Page}
use Rattle.plot_page.specs.declared.pens.PenSet.{PenSet}
use Rattle.stroke_runs.specs.Drawn.{drawn, drawn_shapes, is_drawn, is_joined}
use Rattle.stroke_runs.specs.Shown.{is_whole_page, shown_shape, widened}
use Rattle.svg.specs.declared.places.Place.{Place}
use Rattle.svg.specs.declared.places.Rectangle.{Rectangle}
use Rattle.svg.specs.Clips.{IsAmong, clips_of, rectangle_cmp, with_clip, with_clips}
use Rattle.svg.specs.Commands.{Command, LineBy, LineTo, MoveBy, MoveTo, line, move}
use Rattle.svg.specs.Documents.{foot_text, sheets_bytes, sheets_text, start_text, svg_bytes}
use Rattle.svg.specs.Parts.{AreBeside, Part, parts, parts_text}
use Rattle.svg.specs.Paths.{Path, clip_of, line_of, rest_commands}
use Rattle.svg.specs.Places.{end_of, offset, rectangle_of, start_of, turned}
use Rattle.stroke_runs.specs.Ranges.{IsInRange}
use Rattle.svg.specs.Reader.{read_svg, read_titles}
use Rattle.svg.specs.Readings.{part_paths, parts_of_sheets, paths_in, read_paths, read_sheets, shapes_of, size_of, titles}
use Rattle.svg.specs.Sheets.{Sheet, labelled_sheets}
use Rattle.svg.specs.Titles.{utf_8}
use Rattle.svg.proofs.ClipLaw.{parts_clipped, sheets_clipped}
use Rattle.svg.proofs.ClipReads.{AreSmallRectangles, IsSmallRectangle}
use Rattle.svg.proofs.DocumentReads.{AreClipped, document_read, document_titles}
use Rattle.svg.proofs.EachPath.{Each, EachDrawn, FromRun, each_of_parts, each_of_sheets}
use Rattle.svg.proofs.PartLaws.{all_sheets_read, parts_read, seen_strokes}
use Rattle.svg.proofs.PartReads.{AreSmallPaths, Shows, shows_both, shows_foot, shows_parts, shows_sheets}
use Rattle.svg.proofs.PathReads.{AreSmall, IsSmall, IsSmallCommand, IsSmallPath}

less : (a b : ℤ) (n m : ℕ) → nat_abs a ≤ n → nat_abs b ≤ m → nat_abs (a -ℤ b) ≤ n + m
less a b n m h k = omega (arith, ints, h, k)

-- a place of a document
abbrev IsNear : Place → Type 0
IsNear p = (nat_abs p.x ≤ 268435456) × (nat_abs p.y ≤ 268435456)

turned_near : (page : Page) (y : ℤ) → nat_abs y ≤ 134217712 → nat_abs (turned page y) ≤ 268435456
turned_near page y h =
    let high = page.height_in.1 in
    let near = less (pos (16 * page.height)) y 8388608 134217712 (omega (arith, ints, high)) h in
    omega (arith, near)

start_near : (page : Page) (s : Segment) → IsInRange s → IsNear (start_of page s)
start_near page s h = (omega (arith, h.ax), turned_near page s.ay h.ay)

end_near : (page : Page) (s : Segment) → IsInRange s → IsNear (end_of page s)
end_near page s h = (omega (arith, h.bx), turned_near page s.by h.by)

small_place : (p : Place) → IsNear p → IsSmall p
small_place p h = record { x = omega (arith, h.0); y = omega (arith, h.1) }

small_offset : (p q : Place) → IsNear p → IsNear q → IsSmall (offset p q)
small_offset p q h k =
    let x = less q.x p.x 268435456 268435456 k.0 h.0 in
    let y = less q.y p.y 268435456 268435456 k.1 h.1 in
    record { x = omega (arith, x); y = omega (arith, y) }

either_small : (b : Bool) (c d : Command) → IsSmallCommand c → IsSmallCommand d → IsSmallCommand (cond b c d)
either_small true c d h k = h
either_small false c d h k = k

small_line : (p q : Place) → IsNear p → IsNear q → IsSmallCommand (line p q)
small_line p q h k = either_small _ (LineBy (offset p q)) (LineTo q) (small_offset p q h k) (small_place q k)

small_move : (p q : Place) → IsNear p → IsNear q → IsSmallCommand (move p q)
small_move p q h k = either_small _ (MoveBy (offset p q)) (MoveTo q) (small_offset p q h k) (small_place q k)

stroke_line : (page : Page) (s : Segment) → IsInRange s → IsSmallCommand (line_of page s)
stroke_line page s h = small_line (start_of page s) (end_of page s) (start_near page s h) (end_near page s h)

next_small : (b : Bool) (a c : Command) (cs : List Command) → IsSmallCommand a → IsSmallCommand c → AreSmall cs → AreSmall (cond b (c ∷ []) (a ∷ c ∷ []) ++ cs)
next_small true a c cs h k m = (k, m)
next_small false a c cs h k m = (h, (k, m))

rest_small : (page : Page) (last : Segment) (ss : List Segment) → IsInRange last → Each IsInRange ss → AreSmall (rest_commands page last ss)
rest_small page last [] h k = tt
rest_small page last (s ∷ ss) h k =
    next_small (is_joined last s) (move (end_of page last) (start_of page s)) (line_of page s) (rest_commands page s ss)
    (small_move (end_of page last) (start_of page s) (end_near page last h) (start_near page s k.0)) (stroke_line page s k.0) (rest_small page s ss k.0 k.1)

small_run : (page : Page) → FromRun page IsInRange IsInRange IsSmallPath
small_run page rule s ss _ h k = record {
  pen = omega (arith, h.pen);
  colour = record { red = h.red; green = h.green; blue = h.blue };
  width = omega (arith, h.width);
  commands = (small_place (start_of page s) (start_near page s h), (stroke_line page s h, rest_small page s ss h k));
}

-- clip paths
small_rectangle : (page : Page) (s : Segment) → IsInRange s → IsSmallRectangle (rectangle_of page s.window)
small_rectangle page s h =
    let y = turned_near page s.window.y1 h.y1 in
    let width = less s.window.x1 s.window.x0 134217712 134217712 h.x1 h.x0 in
    let height = less s.window.y1 s.window.y0 134217712 134217712 h.y1 h.y0 in
    record { x = omega (arith, h.x0); y = omega (arith, y); width = omega (arith, width); height = omega (arith, height) }

insert_step : (o : Ordering) (r x : Rectangle) (rs ts : List Rectangle) → IsSmallRectangle r → AreSmallRectangles (x ∷ rs) → AreSmallRectangles ts → AreSmallRectangles (match_ordering o (r ∷ x ∷ rs) (x ∷ rs) (x ∷ ts))
insert_step Less r x rs ts h k m = (h, k)
insert_step Equal r x rs ts h k m = k
insert_step Greater r x rs ts h k m = (k.0, m)

insert_small : (rs : List Rectangle) (r : Rectangle) → AreSmallRectangles rs → IsSmallRectangle r → AreSmallRectangles (insert_key rectangle_cmp rs r)
insert_small [] r h k = (k, tt)
insert_small (x ∷ rs) r h k = insert_step (rectangle_cmp r x) r x rs (insert_key rectangle_cmp rs r) k h (insert_small rs r h.1 k)

clip_step : (b : Bool) (rs : List Rectangle) (r : Rectangle) → AreSmallRectangles rs → IsSmallRectangle r → AreSmallRectangles (with_clip rs (cond b None (Some r)))
clip_step true rs r h k = h
clip_step false rs r h k = insert_small rs r h k

clips_small : (page : Page) (pens : PenSet) (rs : List Rectangle) (ss : List Segment) → AreSmallRectangles rs → Each IsInRange ss → AreSmallRectangles (with_clips page rs ss)
clips_small page pens rs [] h k = h
clips_small page pens rs (s ∷ ss) h k =
    clips_small page pens (with_clip rs (clip_of page s.window)) ss (clip_step (is_whole_page page s.window) rs (rectangle_of page s.window) h (small_rectangle page s k.0)) k.1

each_of_all : (P : Segment → Type 0) (ss : List Segment) → All P ss → Each P ss
each_of_all P [] h = tt
each_of_all P (s ∷ ss) h = (All-head P s ss h, each_of_all P ss (All-tail P s ss h))

small_of_all : (ps : List Path) → All IsSmallPath ps → AreSmallPaths ps
small_of_all [] h = tt
small_of_all (p ∷ ps) h = (All-head IsSmallPath p ps h, small_of_all ps (All-tail IsSmallPath p ps h))

clipped_of_all : (rs : List Rectangle) (ps : List Path) → All (λ (p : Path). IsAmong rs p.clip) ps → AreClipped rs ps
clipped_of_all rs [] h = tt
clipped_of_all rs (p ∷ ps) h =
    let P : Path → Type 0 = λ q. IsAmong rs q.clip in
    (All-head P p ps h, clipped_of_all rs ps (All-tail P p ps h))

drawn_in_range : (pens : PenSet) (ss : List Segment) → Each IsInRange ss → EachDrawn pens IsInRange ss
drawn_in_range pens [] h = tt
drawn_in_range pens (s ∷ ss) h = ((λ e. h.0), drawn_in_range pens ss h.1)

taken_step : (b : Bool) (s : Segment) (ss : List Segment) → IsInRange s → Each IsInRange ss → Each IsInRange (cond b (s ∷ ss) ss)
taken_step true s ss h k = (h, k)
taken_step false s ss h k = k

taken : (pens : PenSet) (ss : List Segment) → Each IsInRange ss → Each IsInRange (drawn pens ss)
taken pens [] h = tt
taken pens (s ∷ ss) h = taken_step (is_drawn pens s) s (drawn pens ss) h.0 (taken pens ss h.1)

pub all_small : (page : Page) (pens : PenSet) (strokes : List Segment) → All IsInRange strokes → AreSmallRectangles (clips_of page pens strokes)
all_small page pens strokes h = clips_small page pens [] (drawn pens strokes) tt (taken pens strokes (each_of_all IsInRange strokes h))

with_foot : (text : List ℕ) (ps : List Path) (ts : List (List ℕ)) → Shows text ps ts → Shows (text ++ foot_text) ps ts
with_foot text ps ts h =
    let P : List Path → Type 0 = λ qs. Shows (text ++ foot_text) qs ts in
    let T : List (List ℕ) → Type 0 = λ us. Shows (text ++ foot_text) (ps ++ []) us in
    subst P (append-nil ps) (subst T (append-nil ts) (shows_both text foot_text ps [] h shows_foot))

-- the documents of strokes, whose numbers are in their ranges, and of areas that are apart
module _ (page : Page) (pens : PenSet) (strokes : List Segment) (areas : List Area) (labels : List LabelShape) (h : All IsInRange strokes) (apart : AreApart 0 areas) where
  abbrev rs : List Rectangle
  rs = clips_of page pens strokes

  abbrev all : List Part
  all = parts page pens strokes areas labels

  abbrev text : List ℕ
  text = parts_text page pens strokes areas labels

  in_range : Each IsInRange strokes
  in_range = each_of_all IsInRange strokes h

  -- the paths can be read
  parts_small : AreSmallPaths (paths_in all)
  parts_small =
      small_of_all (paths_in all) (each_of_parts page IsInRange IsInRange IsSmallPath (small_run page) pens strokes areas apart (drawn_in_range pens strokes in_range) in_range labels)

  parts_shown : Shows (text ++ foot_text) (paths_in all) (titles all)
  parts_shown = with_foot text (paths_in all) (titles all) (shows_parts all parts_small)

  pub bytes_read : AreBeside areas labels → read_svg (svg_bytes page pens strokes areas labels) ≡ Some (map shown_shape (drawn_shapes pens (shapes strokes areas)))
  bytes_read beside =
      ap (λ (z : List ℕ). read_svg z) (append_assoc (start_text page pens strokes) text foot_text)
      ∙ document_read page rs (text ++ foot_text) (paths_in all) (titles all) parts_shown (all_small page pens strokes h) parts_small (clipped_of_all rs (paths_in all) (parts_clipped page pens strokes areas labels apart))
      ∙ ap (λ (ss : List Shape). Some ss) (parts_read page pens strokes areas labels apart beside)

  pub titles_read : read_titles (svg_bytes page pens strokes areas labels) ≡ Some (map utf_8 (titles all))
  titles_read =
      ap (λ (z : List ℕ). read_titles z) (append_assoc (start_text page pens strokes) text foot_text)
      ∙ document_titles page rs (text ++ foot_text) (paths_in all) (titles all) parts_shown

-- the shapes of sheets are those of their paths
sheets_paths : (page : Page) (pens : PenSet) (sheets : List Sheet) → read_paths (size_of page) (paths_in (parts_of_sheets page pens sheets)) ≡ read_sheets page pens sheets
sheets_paths page pens [] = refl
sheets_paths page pens (sheet ∷ sheets) =
    let first = parts page pens sheet.strokes sheet.areas sheet.labels in
    let others = parts_of_sheets page pens sheets in
    ap (λ (ps : List Path). read_paths (size_of page) ps) (flat_map-append part_paths first others)
    ∙ flat_map-append (shapes_of (size_of page)) (paths_in first) (paths_in others)
    ∙ ap (λ (ss : List Shape). read_paths (size_of page) (paths_in first) ++ ss) (sheets_paths page pens sheets)

module _ (page : Page) (pens : PenSet) (strokes : List Segment) (areas : List Area) (ends : List ℕ) (labels : List LabelShape) (h : All IsInRange strokes) (apart : AreApart 0 areas) where
  abbrev clips : List Rectangle
  clips = clips_of page pens strokes

  abbrev sheets : List Sheet
  sheets = labelled_sheets strokes areas ends labels

  abbrev every : List Part
  every = parts_of_sheets page pens sheets

  abbrev body : List ℕ
  body = sheets_text page pens 0 sheets

  range : Each IsInRange strokes
  range = each_of_all IsInRange strokes h

  sheets_small : AreSmallPaths (paths_in every)
  sheets_small =
      small_of_all (paths_in every) (each_of_sheets page IsInRange IsInRange IsSmallPath (small_run page) pens strokes areas apart (drawn_in_range pens strokes range) range ends labels)

  sheets_shown : Shows (body ++ foot_text) (paths_in every) (titles every)
  sheets_shown = with_foot body (paths_in every) (titles every) (shows_sheets page pens 0 sheets sheets_small)

  pub sheet_bytes_read : All (λ end. NoneGoesOn end areas) ends → AreBeside areas labels → read_svg (sheets_bytes page pens strokes areas ends labels) ≡ Some (map shown_shape (drawn_shapes pens (shapes strokes areas)))
  sheet_bytes_read whole beside =
      ap (λ (z : List ℕ). read_svg z) (append_assoc (start_text page pens strokes) body foot_text)
      ∙ document_read page clips (body ++ foot_text) (paths_in every) (titles every) sheets_shown (all_small page pens strokes h) sheets_small (clipped_of_all clips (paths_in every) (sheets_clipped page pens strokes areas ends labels apart))
      ∙ ap (λ (ss : List Shape). Some ss) (sheets_paths page pens sheets ∙ all_sheets_read page pens strokes areas ends labels apart whole beside)

  pub sheet_titles_read : read_titles (sheets_bytes page pens strokes areas ends labels) ≡ Some (map utf_8 (titles every))
  sheet_titles_read =
      ap (λ (z : List ℕ). read_titles z) (append_assoc (start_text page pens strokes) body foot_text)
      ∙ document_titles page clips (body ++ foot_text) (paths_in every) (titles every) sheets_shown

-- without areas all labels are beside them, and all ends
no_areas : (labels : List LabelShape) → AreBeside [] labels
no_areas [] = All-nil (λ (l : LabelShape). NoneGoesOn l.first [] × NoneGoesOn l.after [])
no_areas (l ∷ ls) =
    let none = All-nil (λ (a : Area). a.first < l.first → a.end ≤ l.first) in
    let later = All-nil (λ (a : Area). a.first < l.after → a.end ≤ l.after) in
    All-cons (λ (k : LabelShape). NoneGoesOn k.first [] × NoneGoesOn k.after []) l ls (none, later) (no_areas ls)

no_ends : (ends : List ℕ) → All (λ (end : ℕ). NoneGoesOn end []) ends
no_ends [] = All-nil (λ (end : ℕ). NoneGoesOn end [])
no_ends (e ∷ es) = All-cons (λ (end : ℕ). NoneGoesOn end []) e es (All-nil (λ (a : Area). a.first < e → a.end ≤ e)) (no_ends es)

pub bytes_of_strokes : (page : Page) (pens : PenSet) (strokes : List Segment) (labels : List LabelShape) → All IsInRange strokes → read_svg (svg_bytes page pens strokes [] labels) ≡ Some (map stroke_shape (map widened (drawn pens strokes)))
bytes_of_strokes page pens strokes labels h =
    bytes_read page pens strokes [] labels h tt (no_areas labels) ∙ ap (λ (ss : List Shape). Some ss) (seen_strokes pens strokes)

pub sheets_of_strokes : (page : Page) (pens : PenSet) (strokes : List Segment) (ends : List ℕ) (labels : List LabelShape) → All IsInRange strokes → read_svg (sheets_bytes page pens strokes [] ends labels) ≡ Some (map stroke_shape (map widened (drawn pens strokes)))
sheets_of_strokes page pens strokes ends labels h =
    sheet_bytes_read page pens strokes [] ends labels h tt (no_ends ends) (no_areas labels) ∙ ap (λ (ss : List Shape). Some ss) (seen_strokes pens strokes)
