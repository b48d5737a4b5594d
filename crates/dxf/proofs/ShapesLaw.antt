-- The lines of the entities are what is seen of the strokes that are drawn, and of the edges of areas.
use Rattle.std.proofs.Common.{◌≡◌, ◌∙◌, ℕ, ◌+◌, ◌-◌, ◌≤◌, min, Bool, true, false, cond, List, [], ◌∷◌, ◌++◌, drop, filter_map, flat_map, length, length-drop, map, nat_eq, take, Option, Some, None, is_some, refl, ap, sym, subst, arith, append_assoc, append-nil}
use Rattle.std.proofs.lemmas.Bool.Decides.{nat_tests}
use Rattle.std.proofs.lemmas.List.{map-append, length-take}
use Rattle.std.proofs.lemmas.List.Concat.{flat_map-append}
use Rattle.std.proofs.lemmas.List.Elements.{All-cons, All-head, All-nil, All-tail, filter_map-append}
use Rattle.std.specs.List.{All, cons_option, list_all}
use Rattle.areas.specs.Shapes.{AreApart, NoneGoesOn, Shape, area_shape, edges_of, shapes, shapes_after, stroke_shape}
use Rattle.areas.specs.declared.area.Area.{Area}
use Rattle.plot_page.specs.Segments.{Segment}
use Rattle.plot_page.specs.declared.pens.PenSet.{PenSet}
use Rattle.stroke_runs.proofs.ShapeCuts.{cut_shapes, first_shapes, last_shapes, no_more_shapes, shapes_from, sheet_apart, sheet_shapes}
use Rattle.stroke_runs.specs.Drawn.{begins_drawn, drawn_shapes}
use Rattle.stroke_runs.specs.Sheets.{between, shapes_between, sheet_areas}
use Rattle.svg.specs.Sheets.{Sheet, labelled_after, labelled_sheets, sheet_between}
use Rattle.dxf.specs.Chains.{Break, Chain, Following, Mark, Seen, area_marks, beginning, chains, edge_marks, following, following_next, going_on, goes_on, mark_if, marks, piece_of, shape_marks, stroke_marks}
use Rattle.dxf.specs.Cuts.{is_whole, line_of}
use Rattle.dxf.specs.Outlines.{AreOutlined, EndsWhereItBegan, IsOutline, strokes_in}
use Rattle.dxf.specs.Layers.{layers_of}
use Rattle.dxf.specs.Readings.{entities_of, entities_of_sheets, lines_of, shape_entities}
use Rattle.dxf.specs.declared.chains.Piece.{Piece}
use Rattle.dxf.specs.declared.cuts.Line.{Line}
use Rattle.dxf.specs.declared.layers.Layers.{Layers}
use Rattle.dxf.proofs.LinesLaw.{AreRight, IsOpen, IsRight, all_pieces, chains_lines, line_of_piece, no_more, none_goes_on, one_line, one_open, pieces_of, same_point, seen_both, seen_of}
use Rattle.dxf.proofs.Outlines.{marks_whole, whole_right}

-- ---- the lines of marks

abbrev seen_lines : List Mark → List Line
seen_lines ms = map line_of_piece (seen_of ms)

lines_both : (ms ns : List Mark) → seen_lines (ms ++ ns) ≡ seen_lines ms ++ seen_lines ns
lines_both ms ns = ap (λ (ps : List Piece). map line_of_piece ps) (seen_both ms ns) ∙ map-append line_of_piece (seen_of ms) (seen_of ns)

-- a piece with a width of its own, or the least one, and those after it
one_more : (width : ℕ) (closed : Bool) (s : Segment) (ms : List Mark) (ls : List Line) → seen_lines ms ≡ ls → seen_lines (mark_if (piece_of width closed s) ++ ms) ≡ cons_option (line_of s) ls
one_more width closed s ms ls h =
    lines_both (mark_if (piece_of width closed s)) ms
    ∙ ap (λ (zs : List Line). seen_lines (mark_if (piece_of width closed s)) ++ zs) h
    ∙ one_line (line_of s) width closed s ls

edges_lines : (closed : Bool) (edges : List Segment) → seen_lines (edge_marks closed edges) ≡ filter_map line_of edges
edges_lines closed [] = refl
edges_lines closed (e ∷ es) = one_more 24 closed e (edge_marks closed es) (filter_map line_of es) (edges_lines closed es)

strokes_lines : (ss : List Segment) → seen_lines (flat_map stroke_marks ss) ≡ filter_map line_of ss
strokes_lines [] = refl
strokes_lines (s ∷ ss) = one_more s.width false s (flat_map stroke_marks ss) (filter_map line_of ss) (strokes_lines ss)

area_lines : (edges : List Segment) → seen_lines (area_marks edges) ≡ filter_map line_of edges
area_lines edges =
    let own = edge_marks (list_all is_whole edges) edges in
    lines_both own (Break ∷ []) ∙ append-nil (seen_lines own) ∙ edges_lines (list_all is_whole edges) edges

shape_lines_by : (b : Bool) (ss : List Segment) → seen_lines (cond b (area_marks ss) (flat_map stroke_marks ss)) ≡ filter_map line_of ss
shape_lines_by true ss = area_lines ss
shape_lines_by false ss = strokes_lines ss

-- all shapes
marks_lines : (ss : List Shape) → seen_lines (flat_map shape_marks ss) ≡ filter_map line_of (strokes_in ss)
marks_lines [] = refl
marks_lines (s ∷ ss) =
    lines_both (shape_marks s) (flat_map shape_marks ss)
    ∙ (λ i. shape_lines_by (is_some s.rule) s.strokes i ++ marks_lines ss i)
    ∙ sym (filter_map-append line_of s.strokes (strokes_in ss))

-- ---- chains that end where they began

-- marks that leave no closed chain behind
abbrev LeavesNone : List Mark → Type 0
LeavesNone ms = (last : Option Piece) → IsOpen last (following last ms)

none_left : LeavesNone []
none_left last = record { linked = no_more last; unclosed = tt; right = tt }

edges_then : (edges : List Segment) (ms : List Mark) → LeavesNone ms → LeavesNone (edge_marks false edges ++ ms)
edges_then [] ms h = h
edges_then (e ∷ es) ms h = λ last.
    subst (λ (ns : List Mark). IsOpen last (following last ns)) (sym (append_assoc (mark_if (piece_of 24 false e)) (edge_marks false es) ms))
    (one_open (line_of e) last 24 e (edge_marks false es ++ ms) (edges_then es ms h))

strokes_then : (ss : List Segment) (ms : List Mark) → LeavesNone ms → LeavesNone (flat_map stroke_marks ss ++ ms)
strokes_then [] ms h = h
strokes_then (s ∷ ss) ms h = λ last.
    subst (λ (ns : List Mark). IsOpen last (following last ns)) (sym (append_assoc (stroke_marks s) (flat_map stroke_marks ss) ms))
    (one_open (line_of s) last s.width s (flat_map stroke_marks ss ++ ms) (strokes_then ss ms h))

-- what follows up to a break, and after it
abbrev broken : Following → List Mark → Following
broken f ns = record { rest = f.rest; chains = f.chains ++ chains ns }

step_broken : (b : Bool) (next : Piece) (f : Following) (ns : List Mark) → cond b (going_on next (broken f ns)) (beginning next (broken f ns)) ≡ broken (cond b (going_on next f) (beginning next f)) ns
step_broken true next f ns = refl
step_broken false next f ns = refl

to_break : (last : Option Piece) (ms ns : List Mark) → following last (ms ++ Break ∷ ns) ≡ broken (following last ms) ns
to_break last [] ns = refl
to_break None (Seen next ∷ ms) ns = ap (λ (f : Following). beginning next f) (to_break (Some next) ms ns)
to_break (Some last) (Seen next ∷ ms) ns =
    ap (λ (f : Following). following_next (Some last) next f) (to_break (Some next) ms ns)
    ∙ step_broken (goes_on last next) next (following (Some next) ms) ns
to_break last (Break ∷ ms) ns = ap (λ (f : Following). record { rest = []; chains = f.chains }) (to_break None ms ns)

right_both : (cs ds : List Chain) → AreRight cs → AreRight ds → AreRight (cs ++ ds)
right_both [] ds h k = k
right_both (c ∷ cs) ds h k = (h.0, right_both cs ds h.1 k)

edges_right : (b : Bool) (edges : List Segment) → list_all is_whole edges ≡ b → IsOutline edges → AreRight (chains (edge_marks b edges))
edges_right true edges e h = subst (λ (ms : List Mark). AreRight (chains ms)) (sym (marks_whole edges e)) (whole_right edges h)
edges_right false edges e h = subst (λ (ms : List Mark). AreRight (chains ms)) (append-nil (edge_marks false edges)) ((edges_then edges [] none_left None).right)

area_then : (edges : List Segment) (ms : List Mark) → IsOutline edges → LeavesNone ms → LeavesNone (area_marks edges ++ ms)
area_then edges ms o h = λ last.
    let b = list_all is_whole edges in
    let own = edge_marks b edges in
    let both : AreRight (chains (own ++ Break ∷ ms)) =
    subst (λ (f : Following). AreRight f.chains) (sym (to_break None own ms)) (right_both (chains own) (chains ms) (edges_right b edges refl o) ((h None).right)) in
    let right : AreRight (chains ((own ++ Break ∷ []) ++ ms)) = subst (λ (ns : List Mark). AreRight (chains ns)) (sym (append_assoc own (Break ∷ []) ms)) both in
    record { linked = no_more last; unclosed = tt; right = right }

-- shapes of which the areas are outlines
abbrev IsGood : Shape → Type 0
IsGood shape = is_some shape.rule ≡ true → IsOutline shape.strokes

abbrev pub AreGood : List Shape → Type 0
AreGood [] = Unit {0}
AreGood (s ∷ ss) = IsGood s × AreGood ss

shape_then : (b : Bool) (ss : List Segment) (ms : List Mark) → (b ≡ true → IsOutline ss) → LeavesNone ms → LeavesNone (cond b (area_marks ss) (flat_map stroke_marks ss) ++ ms)
shape_then true ss ms o h = area_then ss ms (o refl) h
shape_then false ss ms o h = strokes_then ss ms h

shapes_leave_none : (ss : List Shape) → AreGood ss → LeavesNone (flat_map shape_marks ss)
shapes_leave_none [] h = none_left
shapes_leave_none (s ∷ ss) h = shape_then (is_some s.rule) s.strokes (flat_map shape_marks ss) h.0 (shapes_leave_none ss h.1)

ends_of_chain : (c : Chain) → IsRight c.first c.others → EndsWhereItBegan c
ends_of_chain c h = λ closed. sym (same_point c.first.from _ (h.2 closed))

all_end : (cs : List Chain) → AreRight cs → All EndsWhereItBegan cs
all_end [] h = All-nil EndsWhereItBegan
all_end (c ∷ cs) h = All-cons EndsWhereItBegan c cs (ends_of_chain c h.0) (all_end cs h.1)

-- ---- shapes that are drawn

drawn_lines : (layers : Layers) (pens : PenSet) (ss : List Shape) → AreGood (drawn_shapes pens ss) → flat_map lines_of (shape_entities layers pens ss) ≡ filter_map line_of (strokes_in (drawn_shapes pens ss))
drawn_lines layers pens ss h =
    let ms = marks pens ss in
    chains_lines layers (chains ms) ((shapes_leave_none (drawn_shapes pens ss) h None).right)
    ∙ ap (λ (ps : List Piece). map line_of_piece ps) (ap (λ (zs : List Piece). zs ++ pieces_of (following None ms).chains) (sym (none_goes_on ms)) ∙ all_pieces None ms)
    ∙ marks_lines (drawn_shapes pens ss)

pub drawn_end : (pens : PenSet) (ss : List Shape) → AreGood (drawn_shapes pens ss) → All EndsWhereItBegan (chains (marks pens ss))
drawn_end pens ss h = all_end (chains (marks pens ss)) ((shapes_leave_none (drawn_shapes pens ss) h None).right)

-- ---- areas

no_area : (ss : List Segment) → false ≡ true → IsOutline ss
no_area ss e = absurd (cc)

good_strokes : (ss : List Segment) (others : List Shape) → AreGood others → AreGood (map stroke_shape ss ++ others)
good_strokes [] others h = h
good_strokes (s ∷ ss) others h = (no_area (s ∷ []), good_strokes ss others h)

good_plain : (ss : List Segment) → AreGood (map stroke_shape ss)
good_plain [] = tt
good_plain (s ∷ ss) = (no_area (s ∷ []), good_plain ss)

good_after : (at : ℕ) (strokes : List Segment) (areas : List Area) → AreOutlined strokes areas → AreGood (shapes_after at strokes areas)
good_after at strokes [] h = good_plain (drop at strokes)
good_after at strokes (a ∷ more) h =
    let P : Area → Type 0 = λ z. IsOutline (edges_of strokes z) in
    good_strokes (drop at (take a.first strokes)) (area_shape strokes a ∷ shapes_after a.end strokes more)
    (λ e. All-head P a more h, good_after a.end strokes more (All-tail P a more h))

good_by : (b : Bool) (s : Shape) (ss : List Shape) → IsGood s → AreGood ss → AreGood (cond b (s ∷ ss) ss)
good_by true s ss h k = (h, k)
good_by false s ss h k = k

good_drawn : (pens : PenSet) (ss : List Shape) → AreGood ss → AreGood (drawn_shapes pens ss)
good_drawn pens [] h = tt
good_drawn pens (s ∷ ss) h = good_by (begins_drawn pens s.strokes) s (drawn_shapes pens ss) h.0 (good_drawn pens ss h.1)

good_front : (ss ts : List Shape) → AreGood (ss ++ ts) → AreGood ss
good_front [] ts h = tt
good_front (s ∷ ss) ts h = (h.0, good_front ss ts h.1)

good_back : (ss ts : List Shape) → AreGood (ss ++ ts) → AreGood ts
good_back [] ts h = h
good_back (s ∷ ss) ts h = good_back ss ts h.1

pub outlined_good : (pens : PenSet) (strokes : List Segment) (areas : List Area) → AreOutlined strokes areas → AreGood (drawn_shapes pens (shapes strokes areas))
outlined_good pens strokes areas h = good_drawn pens (shapes strokes areas) (good_after 0 strokes areas h)

-- ---- a document

-- what is seen of the strokes of shapes that are drawn
abbrev seen : PenSet → List Shape → List Line
seen pens ss = filter_map line_of (strokes_in (drawn_shapes pens ss))

pub shapes_seen : (sheet : Option ℕ) (pens : PenSet) (strokes : List Segment) (areas : List Area) → AreApart 0 areas → AreGood (drawn_shapes pens (shapes strokes areas))
    → flat_map lines_of (entities_of sheet pens strokes areas []) ≡ seen pens (shapes strokes areas)
shapes_seen sheet pens strokes areas apart h =
    let layers = layers_of sheet pens strokes in
    ap (λ (ss : List Shape). flat_map lines_of (shape_entities layers pens ss)) (last_shapes strokes areas 0 ∙ first_shapes strokes areas apart)
    ∙ drawn_lines layers pens (shapes strokes areas) h

-- ---- sheets

between_size : (strokes : List Segment) (at end : ℕ) → length (between strokes at end) ≡ min end (length strokes) - at
between_size strokes at end = length-drop at (take end strokes) ∙ ap (λ (n : ℕ). n - at) (length-take end strokes)

module _ (pens : PenSet) (strokes : List Segment) (areas : List Area) (apart : AreApart 0 areas) where
  -- the shapes between two strokes, and those after them
  both_seen : (at m : ℕ) → at ≤ m → NoneGoesOn m areas → seen pens (shapes_between strokes areas at m) ++ seen pens (shapes_from strokes areas m) ≡ seen pens (shapes_from strokes areas at)
  both_seen at m low whole =
      let own = drawn_shapes pens (shapes_between strokes areas at m) in
      let others = drawn_shapes pens (shapes_from strokes areas m) in
      sym (filter_map-append line_of (strokes_in own) (strokes_in others))
      ∙ ap (λ (ss : List Segment). filter_map line_of ss) (sym (flat_map-append (λ (shape : Shape). shape.strokes) own others))
      ∙ ap (λ (ss : List Shape). filter_map line_of (strokes_in ss)) (cut_shapes pens strokes areas at m apart low whole)

  sheet_seen : (n at end : ℕ) → AreGood (drawn_shapes pens (shapes_between strokes areas at end))
      → flat_map lines_of (entities_of (Some n) pens (between strokes at end) (sheet_areas at areas) []) ≡ seen pens (shapes_between strokes areas at end)
  sheet_seen n at end h =
      let same = sheet_shapes strokes areas at end apart in
      shapes_seen (Some n) pens (between strokes at end) (sheet_areas at areas) (sheet_apart at areas apart) (subst (λ (ss : List Shape). AreGood (drawn_shapes pens ss)) (sym same) h)
      ∙ ap (λ (ss : List Shape). seen pens ss) same

  sheet_step : (b : Bool) (n : ℕ) (s : Sheet) (xs ys : List Sheet) (all : List Line) → (b ≡ true → flat_map lines_of (entities_of_sheets pens n xs) ≡ all)
      → (b ≡ false → flat_map lines_of (entities_of (Some (n + 1)) pens s.strokes s.areas s.labels) ++ flat_map lines_of (entities_of_sheets pens (n + 1) ys) ≡ all)
      → flat_map lines_of (entities_of_sheets pens n (cond b xs (s ∷ ys))) ≡ all
  sheet_step true n s xs ys all p q = p refl
  sheet_step false n s xs ys all p q =
      flat_map-append lines_of (entities_of (Some (n + 1)) pens s.strokes s.areas s.labels) (entities_of_sheets pens (n + 1) ys) ∙ q refl

  -- a sheet with strokes, and those after it
  one_sheet : (n at end : ℕ) (others : List Line) → NoneGoesOn end areas → AreGood (drawn_shapes pens (shapes_from strokes areas at))
      → (AreGood (drawn_shapes pens (shapes_from strokes areas end)) → others ≡ seen pens (shapes_from strokes areas end))
      → nat_eq (length (between strokes at end)) 0 ≡ false
      → flat_map lines_of (entities_of (Some n) pens (between strokes at end) (sheet_areas at areas) []) ++ others ≡ seen pens (shapes_from strokes areas at)
  one_sheet n at end others whole h later some =
      let size : 1 ≤ length (between strokes at end) = grind (arith, nat_tests, some) in
      let low : at ≤ end = omega (arith, size, between_size strokes at end) in
      let own = drawn_shapes pens (shapes_between strokes areas at end) in
      let rest = drawn_shapes pens (shapes_from strokes areas end) in
      let good : AreGood (own ++ rest) = subst (λ (ss : List Shape). AreGood ss) (sym (cut_shapes pens strokes areas at end apart low whole)) h in
      let left = sheet_seen n at end (good_front own rest good) in
      let right = later (good_back own rest good) in
      (λ i. left i ++ right i) ∙ both_seen at end low whole

  last_sheet : (n at : ℕ) → AreGood (drawn_shapes pens (shapes_from strokes areas at))
      → flat_map lines_of (entities_of_sheets pens n (labelled_after strokes areas at (length strokes ∷ []) [])) ≡ seen pens (shapes_from strokes areas at)
  last_sheet n at h =
      let end = length strokes in
      sheet_step (nat_eq (length (between strokes at end)) 0) n (sheet_between strokes areas at end []) [] [] (seen pens (shapes_from strokes areas at))
      (λ e.
      let none : length (between strokes at end) ≡ 0 = grind (arith, nat_tests, e) in
      let short : length strokes ≤ at = omega (arith, none, between_size strokes at end) in
      sym (ap (λ (ss : List Shape). filter_map line_of (strokes_in ss)) (no_more_shapes pens strokes areas at apart short)))
      (λ e.
      let same = last_shapes strokes areas at in
      append-nil (flat_map lines_of (entities_of (Some (n + 1)) pens (between strokes at end) (sheet_areas at areas) []))
      ∙ sheet_seen (n + 1) at end (subst (λ (ss : List Shape). AreGood (drawn_shapes pens ss)) (sym same) h)
      ∙ ap (λ (ss : List Shape). seen pens ss) same)

  sheets_after_seen : (n at : ℕ) (ends : List ℕ) → All (λ end. NoneGoesOn end areas) ends → AreGood (drawn_shapes pens (shapes_from strokes areas at))
      → flat_map lines_of (entities_of_sheets pens n (labelled_after strokes areas at (ends ++ length strokes ∷ []) [])) ≡ seen pens (shapes_from strokes areas at)
  sheets_after_seen n at [] whole h = last_sheet n at h
  sheets_after_seen n at (end ∷ ends) whole h =
      let P : ℕ → Type 0 = λ e. NoneGoesOn e areas in
      let all = ends ++ length strokes ∷ [] in
      let rest = All-tail P end ends whole in
      sheet_step (nat_eq (length (between strokes at end)) 0) n (sheet_between strokes areas at end []) (labelled_after strokes areas at all []) (labelled_after strokes areas end all []) (seen pens (shapes_from strokes areas at))
      (λ e. sheets_after_seen n at ends rest h)
      (λ e. one_sheet (n + 1) at end (flat_map lines_of (entities_of_sheets pens (n + 1) (labelled_after strokes areas end all []))) (All-head P end ends whole) h (λ good. sheets_after_seen (n + 1) end ends rest good) e)

  pub sheets_seen : (ends : List ℕ) → All (λ end. NoneGoesOn end areas) ends → AreOutlined strokes areas
      → flat_map lines_of (entities_of_sheets pens 0 (labelled_sheets strokes areas ends [])) ≡ seen pens (shapes strokes areas)
  sheets_seen ends whole outlined =
      let all = first_shapes strokes areas apart in
      let good = subst (λ (ss : List Shape). AreGood (drawn_shapes pens ss)) (sym all) (outlined_good pens strokes areas outlined) in
      sheets_after_seen 0 0 ends whole good ∙ ap (λ (ss : List Shape). seen pens ss) all
