-- What holds of each path of a document, since it holds of each stroke that is drawn.
use Rattle.std.proofs.Common.{◌≡◌, ℕ, zero, suc, List, [], ◌∷◌, ◌++◌, length, take, drop, Bool, true, false, cond, map, Option, None, is_some, nat_eq, refl, ap, sym, ◌∙◌, subst}
use Rattle.std.proofs.lemmas.List.Elements.{All-nil, All-cons, All-append, All-same}
use Rattle.std.proofs.lemmas.List.Concat.{flat_map-append}
use Rattle.std.specs.List.{All}
use Rattle.areas.specs.Shapes.{AreApart, Shape, areas_from, stroke_shape}
use Rattle.areas.specs.declared.area.Area.{Area}
use Rattle.labels.specs.Labels.{LabelShape}
use Rattle.labels.specs.Sheets.{count_to}
use Rattle.plot_page.specs.Segments.{Segment}
use Rattle.plot_page.specs.declared.page.Page.{Page}
use Rattle.plot_page.specs.declared.pens.PenSet.{PenSet}
use Rattle.polygons.specs.declared.lines.Rule.{Rule}
use Rattle.stroke_runs.proofs.RunLaws.{all_of}
use Rattle.stroke_runs.proofs.ShapeCuts.{sheet_apart, strokes_between, strokes_in}
use Rattle.stroke_runs.proofs.ShapeLaws.{AreWhole, whole_after, whole_drawn}
use Rattle.stroke_runs.specs.Drawn.{begins_drawn, drawn, drawn_shapes, is_drawn}
use Rattle.stroke_runs.specs.Laws.{joined, split}
use Rattle.stroke_runs.specs.Runs.{runs_of, shape_runs_after, stroke_run}
use Rattle.stroke_runs.specs.Sheets.{between, shapes_between}
use Rattle.stroke_runs.specs.Shown.{is_shown}
use Rattle.svg.specs.Parts.{Part, Group, cut_labels, label_parts, parts, parts_after}
use Rattle.svg.specs.Paths.{Path, path_of, paths, paths_of, run_paths}
use Rattle.svg.specs.Readings.{part_paths, parts_of_sheets, paths_in}
use Rattle.svg.specs.Sheets.{Sheet, labelled_after, labelled_sheets, sheet_between}
use Rattle.svg.specs.Titles.{label_text}

-- what holds of each stroke
abbrev pub Each : (Segment → Type 0) → List Segment → Type 0
Each P [] = Unit {0}
Each P (s ∷ ss) = P s × Each P ss

-- of each that is drawn
abbrev pub EachDrawn : PenSet → (Segment → Type 0) → List Segment → Type 0
EachDrawn pens P ss = Each (λ s. is_drawn pens s ≡ true → P s) ss

each_take : (P : Segment → Type 0) (n : ℕ) (ss : List Segment) → Each P ss → Each P (take n ss)
each_take P zero ss h = tt
each_take P (suc n) [] h = tt
each_take P (suc n) (s ∷ ss) h = (h.0, each_take P n ss h.1)

each_drop : (P : Segment → Type 0) (n : ℕ) (ss : List Segment) → Each P ss → Each P (drop n ss)
each_drop P zero ss h = h
each_drop P (suc n) [] h = tt
each_drop P (suc n) (s ∷ ss) h = each_drop P n ss h.1

each_between : (P : Segment → Type 0) (ss : List Segment) (at end : ℕ) → Each P ss → Each P (between ss at end)
each_between P ss at end h = each_drop P at (take end ss) (each_take P end ss h)

after_first : (P : Segment → Type 0) (ss ts : List Segment) → Each P (ss ++ ts) → Each P ts
after_first P [] ts h = h
after_first P (s ∷ ss) ts h = after_first P ss ts h.1

first_ones : (P : Segment → Type 0) (ss ts : List Segment) → Each P (ss ++ ts) → Each P ss
first_ones P [] ts h = tt
first_ones P (s ∷ ss) ts h = (h.0, first_ones P ss ts h.1)

drawn_step : (b : Bool) (P : Segment → Type 0) (s : Segment) (ss : List Segment) → Each P (cond b (s ∷ ss) ss) → (b ≡ true → P s) × Each P ss
drawn_step true P s ss h = (λ e. h.0, h.1)
drawn_step false P s ss h = (λ e. cc, h)

pub each_drawn : (pens : PenSet) (P : Segment → Type 0) (ss : List Segment) → Each P (drawn pens ss) → EachDrawn pens P ss
each_drawn pens P [] h = tt
each_drawn pens P (s ∷ ss) h =
    let one = drawn_step (is_drawn pens s) P s (drawn pens ss) h in
    (one.0, each_drawn pens P ss one.1)

-- of the strokes of shapes
abbrev EachShape : PenSet → (Segment → Type 0) → (Segment → Type 0) → List Shape → Type 0
EachShape pens P R [] = Unit {0}
EachShape pens P R (s ∷ ss) = EachDrawn pens P s.strokes × Each R s.strokes × EachShape pens P R ss

each_shape : (pens : PenSet) (P R : Segment → Type 0) (ss : List Shape) → EachDrawn pens P (strokes_in ss) → Each R (strokes_in ss) → EachShape pens P R ss
each_shape pens P R [] h k = tt
each_shape pens P R (s ∷ ss) h k =
    let D : Segment → Type 0 = λ x. is_drawn pens x ≡ true → P x in
    (first_ones D s.strokes (strokes_in ss) h, first_ones R s.strokes (strokes_in ss) k, each_shape pens P R ss (after_first D s.strokes (strokes_in ss) h) (after_first R s.strokes (strokes_in ss) k))

-- the first stroke of a shape that is drawn is drawn
abbrev First : (Segment → Type 0) → List Segment → Type 0
First P [] = Unit {0}
First P (s ∷ ss) = P s

abbrev EachBegun : (Segment → Type 0) → (Segment → Type 0) → List Shape → Type 0
EachBegun P R [] = Unit {0}
EachBegun P R (s ∷ ss) = First P s.strokes × Each R s.strokes × EachBegun P R ss

first_drawn : (pens : PenSet) (P : Segment → Type 0) (ss : List Segment) → EachDrawn pens P ss → begins_drawn pens ss ≡ true → First P ss
first_drawn pens P [] h e = tt
first_drawn pens P (s ∷ ss) h e = h.0 e

begun_step : (b : Bool) (P R : Segment → Type 0) (s : Shape) (ss : List Shape) → (b ≡ true → First P s.strokes) → Each R s.strokes → EachBegun P R ss → EachBegun P R (cond b (s ∷ ss) ss)
begun_step true P R s ss h k m = (h refl, k, m)
begun_step false P R s ss h k m = m

each_begun : (pens : PenSet) (P R : Segment → Type 0) (ss : List Shape) → EachShape pens P R ss → EachBegun P R (drawn_shapes pens ss)
each_begun pens P R [] h = tt
each_begun pens P R (s ∷ ss) h = begun_step (begins_drawn pens s.strokes) P R s (drawn_shapes pens ss) (first_drawn pens P s.strokes h.0) h.1 (each_begun pens P R ss h.2)

-- what holds of each path of a run whose first stroke is drawn
abbrev pub FromRun : Page → (Segment → Type 0) → (Segment → Type 0) → (Path → Type 0) → Type 0
FromRun page P R Q = (rule : Option Rule) (s : Segment) (ss : List Segment) → P s → R s → Each R ss → Q (path_of page rule s ss)

each_both : (P : Segment → Type 0) (ss ts : List Segment) → Each P ss → Each P ts → Each P (ss ++ ts)
each_both P [] ts h k = k
each_both P (s ∷ ss) ts h k = (h.0, each_both P ss ts h.1 k)

module _ (page : Page) (P R : Segment → Type 0) (Q : Path → Type 0) (f : FromRun page P R Q) where
  each_run : (runs : List (List Segment)) → Each P (joined runs) → Each R (joined runs) → All Q (paths_of page (map stroke_run runs))
  each_run [] h k = All-nil Q
  each_run ([] ∷ runs) h k = each_run runs h k
  each_run ((s ∷ ss) ∷ runs) h k =
      All-cons Q (path_of page None s ss) (paths_of page (map stroke_run runs)) (f None s ss h.0 k.0 (first_ones R ss (joined runs) k.1))
      (each_run runs (after_first P ss (joined runs) h.1) (after_first R ss (joined runs) k.1))

  strokes_runs : (ss : List Segment) → Each P ss → Each R ss → All Q (paths_of page (map stroke_run (runs_of ss)))
  strokes_runs ss h k =
      let A : List Segment → Type 0 = λ ts. Each P ts in
      let B : List Segment → Type 0 = λ ts. Each R ts in
      each_run (runs_of ss) (subst A (sym (all_of ss)) h) (subst B (sym (all_of ss)) k)

  one_area : (rule : Option Rule) (ss : List Segment) → First P ss → Each R ss → All Q (run_paths page rule ss)
  one_area rule [] h k = All-nil Q
  one_area rule (s ∷ ss) h k = All-cons Q (path_of page rule s ss) [] (f rule s ss h k.0 k.1) (All-nil Q)

  area_paths : (before : List Segment) (s : Shape) (area : List Shape) → Each P before → Each R before → First P s.strokes → Each R s.strokes → All Q (paths_of page area)
      → All Q (paths_of page (map stroke_run (runs_of before) ++ s ∷ area))
  area_paths before s area hb kb h k rest =
      let front = map stroke_run (runs_of before) in
      All-same Q (paths_of page (front ++ s ∷ area)) (paths_of page front ++ paths_of page (s ∷ area)) (flat_map-append (λ run. run_paths page run.rule run.strokes) front (s ∷ area))
      (All-append Q (paths_of page front) (paths_of page (s ∷ area)) (strokes_runs before hb kb)
      (All-append Q (run_paths page s.rule s.strokes) (paths_of page area) (one_area s.rule s.strokes h k) rest))

  -- one stroke, if it is no area
  single : (ss : List Segment) (s : Shape) → map stroke_shape ss ≡ s ∷ [] → First P ss → Each P ss
  single [] s e h = tt
  single (x ∷ []) s e h = (h, tt)
  single (x ∷ y ∷ ys) s e h = cc

  by_strokes : (b : Bool) (s : Shape) → is_some s.rule ≡ b → b ≡ false → split s ≡ s ∷ [] → map stroke_shape s.strokes ≡ s ∷ []
  by_strokes b s e none h = sym (ap (λ (c : Bool). cond c (s ∷ []) (map stroke_shape s.strokes)) (e ∙ none)) ∙ h

  runs_step : (b : Bool) (before : List Segment) (s : Shape) (area others : List Shape) → is_some s.rule ≡ b → split s ≡ s ∷ [] → Each P before → Each R before → First P s.strokes → Each R s.strokes
      → All Q (paths_of page area) → (Each P (before ++ s.strokes) → Each R (before ++ s.strokes) → All Q (paths_of page others)) → All Q (paths_of page (cond b (map stroke_run (runs_of before) ++ s ∷ area) others))
  runs_step true before s area others e w hb kb h k p q = area_paths before s area hb kb h k p
  runs_step false before s area others e w hb kb h k p q =
      q (each_both P before s.strokes hb (single s.strokes s (by_strokes false s e refl w) h)) (each_both R before s.strokes kb k)

  each_shape_run : (before : List Segment) (ss : List Shape) → AreWhole ss → Each P before → Each R before → EachBegun P R ss → All Q (paths_of page (shape_runs_after before ss))
  each_shape_run before [] w hb kb h = strokes_runs before hb kb
  each_shape_run before (s ∷ ss) w hb kb h =
      runs_step (is_some s.rule) before s (shape_runs_after [] ss) (shape_runs_after (before ++ s.strokes) ss) refl w.0 hb kb h.0 h.1 (each_shape_run [] ss w.1 tt tt h.2) (λ p r. each_shape_run (before ++ s.strokes) ss w.1 p r h.2)

  module _ (pens : PenSet) where
    abbrev D : Segment → Type 0
    D s = is_drawn pens s ≡ true → P s

    each_path : (strokes : List Segment) (areas : List Area) → AreApart 0 areas → Each D strokes → Each R strokes → (at end : ℕ) → All Q (paths page pens (shapes_between strokes areas at end))
    each_path strokes areas apart h k at end =
        let ss = shapes_between strokes areas at end in
        let same = sym (strokes_between strokes areas at end apart) in
        let A : List Segment → Type 0 = λ ts. Each D ts in
        let B : List Segment → Type 0 = λ ts. Each R ts in
        let whole = whole_after at (take end strokes) (areas_from at areas) in
        each_shape_run [] (drawn_shapes pens ss) (whole_drawn pens ss whole) tt tt
        (each_begun pens P R ss (each_shape pens P R ss (subst A same (each_between D strokes at end h)) (subst B same (each_between R strokes at end k))))

    label_step : (b : Bool) (text : List ℕ) (ps : List Path) (rest : List Part) → All Q ps → All Q (paths_in rest) → All Q (paths_in (cond b (Group text ps ∷ []) [] ++ rest))
    label_step true text ps rest h k = All-append Q ps (paths_in rest) h k
    label_step false text ps rest h k = k

    each_after : (strokes : List Segment) (areas : List Area) → AreApart 0 areas → Each D strokes → Each R strokes → (at : ℕ) (labels : List LabelShape) → All Q (paths_in (parts_after page pens strokes areas at labels))
    each_after strokes areas apart h k at [] =
        All-append Q (paths page pens (shapes_between strokes areas at (length strokes))) [] (each_path strokes areas apart h k at (length strokes)) (All-nil Q)
    each_after strokes areas apart h k at (l ∷ ls) =
        let front = shapes_between strokes areas at l.first in
        let own = shapes_between strokes areas l.first l.after in
        let rest = parts_after page pens strokes areas l.after ls in
        All-append Q (paths page pens front) (paths_in (label_parts page pens strokes areas l ++ rest)) (each_path strokes areas apart h k at l.first)
        (label_step (is_shown pens strokes l) (label_text l) (paths page pens own) rest (each_path strokes areas apart h k l.first l.after) (each_after strokes areas apart h k l.after ls))

    -- of each path of strokes with their labels
    pub each_of_parts : (strokes : List Segment) (areas : List Area) → AreApart 0 areas → Each D strokes → Each R strokes → (labels : List LabelShape) → All Q (paths_in (parts page pens strokes areas labels))
    each_of_parts strokes areas apart h k labels = each_after strokes areas apart h k 0 (cut_labels 0 labels)

    first_sheet : (s : Sheet) (sheets : List Sheet) → All Q (paths_in (parts page pens s.strokes s.areas s.labels)) → All Q (paths_in (parts_of_sheets page pens sheets)) → All Q (paths_in (parts_of_sheets page pens (s ∷ sheets)))
    first_sheet s sheets h k =
        let first = parts page pens s.strokes s.areas s.labels in
        let others = parts_of_sheets page pens sheets in
        All-same Q (paths_in (first ++ others)) (paths_in first ++ paths_in others) (flat_map-append part_paths first others) (All-append Q (paths_in first) (paths_in others) h k)

    sheet_step : (b : Bool) (s : Sheet) (xs ys : List Sheet) → All Q (paths_in (parts page pens s.strokes s.areas s.labels)) → All Q (paths_in (parts_of_sheets page pens xs)) → All Q (paths_in (parts_of_sheets page pens ys)) → All Q (paths_in (parts_of_sheets page pens (cond b xs (s ∷ ys))))
    sheet_step true s xs ys h k m = k
    sheet_step false s xs ys h k m = first_sheet s ys h m

    each_labelled : (strokes : List Segment) (areas : List Area) → AreApart 0 areas → Each D strokes → Each R strokes → (at : ℕ) (ends : List ℕ) (labels : List LabelShape) → All Q (paths_in (parts_of_sheets page pens (labelled_after strokes areas at ends labels)))
    each_labelled strokes areas apart h k at [] labels = All-nil Q
    each_labelled strokes areas apart h k at (end ∷ ends) labels =
        let later = drop (count_to end labels) labels in
        let sheet = sheet_between strokes areas at end labels in
        sheet_step (nat_eq (length (between strokes at end)) 0) sheet (labelled_after strokes areas at ends labels) (labelled_after strokes areas end ends later)
        (each_of_parts sheet.strokes sheet.areas (sheet_apart at areas apart) (each_between D strokes at end h) (each_between R strokes at end k) sheet.labels)
        (each_labelled strokes areas apart h k at ends labels) (each_labelled strokes areas apart h k end ends later)

    -- of each path of sheets
    pub each_of_sheets : (strokes : List Segment) (areas : List Area) → AreApart 0 areas → Each D strokes → Each R strokes → (ends : List ℕ) (labels : List LabelShape) → All Q (paths_in (parts_of_sheets page pens (labelled_sheets strokes areas ends labels)))
    each_of_sheets strokes areas apart h k ends labels = each_labelled strokes areas apart h k 0 (ends ++ length strokes ∷ []) labels
