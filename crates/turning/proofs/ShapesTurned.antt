-- What a page with areas shows after a turn.
use Rattle.std.proofs.Common.{◌≡◌, ◌∙◌, ℕ, zero, suc, ◌+◌, ◌-◌, ◌≤◌, ◌<◌, Bool, true, false, ◌&&◌, ◌||◌, nat_eq, List, [], ◌∷◌}
use Rattle.std.proofs.Common.{map, length, take, drop, get_or, Option, Some, None, ◌⊎◌}
use Rattle.std.proofs.Common.{inl, inr, refl, sym, ap, ap₂, subst, arith, length-drop}
use Rattle.std.proofs.lemmas.Bool.Decides.{nat_tests}
use Rattle.std.proofs.lemmas.List.{drop-map, get_or-drop, get_or-map, get_or-take}
use Rattle.std.proofs.lemmas.List.{get_or_default, length-map, length-take-le, take-map}
use Rattle.std.proofs.lemmas.List.Elements.{All-head, All-tail}
use Rattle.std.proofs.lemmas.List.Folds.{Any-from_list_any}
use Rattle.std.specs.List.{All, list_any}
use Rattle.areas.specs.Inside.{is_inside_area}
use Rattle.areas.specs.Insides.{is_inside_shape}
use Rattle.areas.specs.Shapes.{edges_of, ending_at}
use Rattle.areas.specs.declared.area.Area.{Area}
use Rattle.directions.specs.declared.turn.Turn.{Turn}
use Rattle.plot_page.specs.declared.colour.Colour.{Colour}
use Rattle.plot_page.specs.declared.dots.Dots.{Dots}
use Rattle.plot_page.specs.declared.page.Page.{Page}
use Rattle.plot_page.specs.declared.pens.PenSet.{PenSet}
use Rattle.plot_page.specs.Pens.{has_pen}
use Rattle.plot_page.specs.Segments.{Segment}
use Rattle.stroke_raster.specs.Covers.{centre, covers_place, drawn_width, in_window, is_gap_met}
use Rattle.stroke_raster.specs.ShownShapes.{area_at, last_at, nobody, shape_of, stroke_at}
use Rattle.stroke_raster.specs.declared.vector.Vector.{Vector}
use Rattle.turning.specs.Filled.{is_on}
use Rattle.turning.specs.Pictures.{HasWholePixels, turned_column, turned_point, turned_row}
use Rattle.turning.specs.Shapes.{IsSolid, IsAlike, TurnedShapesShow, ink_at, ink_of_pixel, ink_shown, shows_place}
use Rattle.turning.specs.Turns.{turned_if_selected, turned_page, turned_segment, turned_strokes}
use Rattle.turning.proofs.AreaTurns.{insides}
use Rattle.turning.proofs.LastOnes.{IsHidden, last_alike, last_within}
use Rattle.turning.proofs.Shown.{along, aside, centres, not_selected, selected, strokes_cover}
use Rattle.turning.proofs.Untouched.{within_any}

of_some : (a b : Area) → Some a ≡ Some b → a ≡ b
of_some a b h = cc

found_by : (P : Area → Type 0) (e : ℕ) (b : Area) (more : List Area) (a : Area) → All P (b ∷ more) → ending_at e (b ∷ more) ≡ Some a
    → (ending_at e more ≡ Some a → P a × (a.end ≡ e)) → (c : Bool) → nat_eq b.end e ≡ c → P a × (a.end ≡ e)
found_by P e b more a all h rest true c =
    let same = of_some b a (sym (rw c refl) ∙ h) in
    (subst P same (All-head P b more all), ap (λ (x : Area). x.end) (sym same) ∙ grind (arith, nat_tests))
found_by P e b more a all h rest false c = rest (sym (rw c refl) ∙ h)

-- the area that is found, and that its last edge is this one
found : (P : Area → Type 0) (e : ℕ) (areas : List Area) (a : Area) → All P areas → ending_at e areas ≡ Some a → P a × (a.end ≡ e)
found P e [] a all h = absurd (cc)
found P e (b ∷ more) a all h = found_by P e b more a all h (λ k. found P e more a (All-tail P b more all) k) (nat_eq b.end e) refl

no_and : (b : Bool) → (b && false) ≡ false
no_and true = refl
no_and false = refl

-- strokes of the selected pens are all turned
all_selected : (turn : Turn) (page : Page) (pens : PenSet) (xs : List Segment)
    → ((k : ℕ) (d : Segment) → k < length xs → has_pen pens (get_or xs k d).pen ≡ true)
    → map (turned_if_selected pens turn page) xs ≡ map (turned_segment turn page) xs
all_selected turn page pens [] h = refl
all_selected turn page pens (x ∷ xs) h =
    ap₂ (λ (s : Segment) (ss : List Segment). s ∷ ss) (selected pens turn page x (h 0 x (omega arith)))
    (all_selected turn page pens xs (λ k d within. h (suc k) d (omega (arith, within))))

-- positions whose strokes look alike
ink_is : (strokes : List Segment) (k : ℕ) → 1 ≤ k
    → ink_at strokes k ≡ Some ((stroke_at strokes k).pen, (stroke_at strokes k).colour)
ink_is strokes zero h = absurd (omega (arith, h))
ink_is strokes (suc k) h = refl

module _ (turn : Turn) (page : Page) (r : ℕ) (pens : PenSet) (strokes : List Segment) (areas : List Area) (p : Vector) where
  abbrev after : Segment → Segment
  after s = turned_if_selected pens turn page s

  abbrev there : Vector
  there = turned_point turn page r p

  abbrev turned : List Segment
  turned = turned_strokes pens turn page strokes

  -- a position shows a place, by its stroke, and by whether the place is inside of its area
  abbrev at_place : Segment → Vector → Bool → Bool
  at_place s v inside = has_pen pens s.pen && (covers_place s r v || (in_window s.window r v && inside))

  stroke_after : (e : ℕ) → 1 ≤ e → e ≤ length strokes → stroke_at turned e ≡ after (stroke_at strokes e)
  stroke_after e from to = get_or-map after strokes (e - 1) nobody nobody (omega (arith, from, to))

  at_selected : (s : Segment) (inside : Bool) → has_pen pens s.pen ≡ true → at_place (after s) there inside ≡ at_place s p inside
  at_selected s inside h =
      ap (λ (t : Segment). at_place t there inside) (selected pens turn page s h)
      ∙ ap₂ (λ (c w : Bool). has_pen pens s.pen && (c || (w && inside)))
      (strokes_cover.covered turn page r s p) (strokes_cover.windows turn page r s.window p)

  at_other : (s : Segment) (v : Vector) (inside : Bool) → has_pen pens s.pen ≡ false → at_place s v inside ≡ false
  at_other s v inside h = rw h refl

  at_outside : (s : Segment) (v : Vector) (inside : Bool) → in_window s.window r v ≡ false → at_place s v inside ≡ false
  at_outside s v inside h =
      ap (λ (w : Bool). has_pen pens s.pen && ((w && is_gap_met s r v) || (w && inside))) h ∙ no_and (has_pen pens s.pen)

  at_edge : (s : Segment) (v : Vector) (inside : Bool) → has_pen pens s.pen ≡ true → in_window s.window r v ≡ true
      → is_gap_met s r v ≡ true
      → at_place s v inside ≡ true
  at_edge s v inside h i j =
      ap (λ (b : Bool). b && ((in_window s.window r v && is_gap_met s r v) || (in_window s.window r v && inside))) h
      ∙ ap (λ (w : Bool). (w && is_gap_met s r v) || (w && inside)) i
      ∙ ap (λ (g : Bool). g || inside) j

  same_ink : (i e : ℕ) → 1 ≤ i → 1 ≤ e → IsAlike (stroke_at strokes e) (stroke_at strokes i) → ink_at strokes i ≡ ink_at strokes e
  same_ink i e from some like =
      ink_is strokes i from
      ∙ ap₂ (λ (n : ℕ) (c : Colour). Some (n, c)) like.pen_is like.colour_is
      ∙ sym (ink_is strokes e some)

  -- the tests of positions, before the turn and after it
  abbrev test : ℕ → Bool
  test e = shows_place pens strokes areas r p e

  abbrev test_after : ℕ → Bool
  test_after e = shows_place pens turned areas r there e

  abbrev inside_at : ℕ → Bool
  inside_at e = is_inside_shape (area_at strokes areas e) r p.x p.y

  abbrev inside_after : ℕ → Bool
  inside_after e = is_inside_shape (area_at turned areas e) r there.x there.y

  -- the test after the turn, by what was before it
  tested : (e : ℕ) → 1 ≤ e → e ≤ length strokes → has_pen pens (stroke_at strokes e).pen ≡ true
      → test_after e ≡ at_place (stroke_at strokes e) p (inside_after e)
  tested e from to h =
      ap (λ (t : Segment). at_place t there (inside_after e)) (stroke_after e from to)
      ∙ at_selected (stroke_at strokes e) (inside_after e) h

  not_tested : (e : ℕ) → 1 ≤ e → e ≤ length strokes → has_pen pens (stroke_at strokes e).pen ≡ false → test e ≡ test_after e
  not_tested e from to h =
      let s = stroke_at strokes e in
      at_other s p (inside_at e) h
      ∙ sym (ap (λ (t : Segment). at_place t there (inside_after e)) (stroke_after e from to ∙ not_selected pens turn page s h)
      ∙ at_other s there (inside_after e) h)

  same_inside : (e : ℕ) → 1 ≤ e → e ≤ length strokes → has_pen pens (stroke_at strokes e).pen ≡ true → inside_after e ≡ inside_at e
      → test e ≡ test_after e
  same_inside e from to h same =
      sym (tested e from to h ∙ ap (λ (b : Bool). at_place (stroke_at strokes e) p b) same)

  outside : (e : ℕ) → 1 ≤ e → e ≤ length strokes → has_pen pens (stroke_at strokes e).pen ≡ true
      → in_window (stroke_at strokes e).window r p ≡ false → test e ≡ test_after e
  outside e from to h w =
      let s = stroke_at strokes e in
      at_outside s p (inside_at e) w ∙ sym (tested e from to h ∙ at_outside s p (inside_after e) w)

  module _ (low : 1 ≤ r) (a : Area) (solid : IsSolid strokes a) (whole : a.end ≤ length strokes)
      (chosen : has_pen pens (stroke_at strokes a.end).pen ≡ true) where
    abbrev edges : List Segment
    edges = edges_of strokes a

    edge_before : (k : ℕ) → k < length edges → a.first + k < a.end
    edge_before k within =
        let e = length-drop a.first (take a.end strokes) in
        let f = length-take-le a.end strokes whole in
        omega (arith, e, f, within)

    -- an edge, by its position
    edge_at : (k : ℕ) (d : Segment) → k < length edges → get_or edges k d ≡ stroke_at strokes (suc (a.first + k))
    edge_at k d within =
        let before = edge_before k within in
        let same : a.first + k ≡ suc (a.first + k) - 1 = omega arith in
        get_or-drop a.first (take a.end strokes) k d
        ∙ get_or-take a.end strokes (a.first + k) d before
        ∙ get_or_default strokes (a.first + k) d nobody (omega (arith, before, whole))
        ∙ ap (λ (i : ℕ). get_or strokes i nobody) same

    looks : (k : ℕ) → k < length edges → IsAlike (stroke_at strokes a.end) (stroke_at strokes (suc (a.first + k)))
    looks k within = solid.alike (suc (a.first + k)) (omega arith) (edge_before k within)

    edge_selected : (k : ℕ) (d : Segment) → k < length edges → has_pen pens (get_or edges k d).pen ≡ true
    edge_selected k d within =
        ap (λ (s : Segment). has_pen pens s.pen) (edge_at k d within) ∙ ap (has_pen pens) (looks k within).pen_is ∙ chosen

    edges_after : edges_of turned a ≡ map (turned_segment turn page) edges
    edges_after =
        ap (drop a.first) (take-map after a.end strokes)
        ∙ drop-map after a.first (take a.end strokes)
        ∙ all_selected turn page pens edges edge_selected

    -- an edge on which the place lies hides the place, in the window
    hides : (k : ℕ) → k < length edges → 1 ≤ a.end → is_on r p (stroke_at strokes (suc (a.first + k))) ≡ true
        → in_window (stroke_at strokes a.end).window r p ≡ true
        → IsHidden test test_after (ink_at strokes) a.end
    hides k within some on seen =
        let f = suc (a.first + k) in
        let s = stroke_at strokes f in
        let like = looks k within in
        let before = edge_before k within in
        let pen : has_pen pens s.pen ≡ true = ap (has_pen pens) like.pen_is ∙ chosen in
        let window : in_window s.window r p ≡ true = ap (λ w. in_window w r p) like.window_is ∙ seen in
        let gap : is_gap_met s r p ≡ true = within_any (along r s) (aside r s p) (drawn_width s.width r) on in
        record {
          first = f;
          from = omega arith;
          to = before;
          here = at_edge s p (inside_at f) pen window gap;
          there = tested f (omega arith) (omega (arith, before, whole)) pen ∙ at_edge s p (inside_after f) pen window gap;
          alike = λ i from to. same_ink i a.end (omega (arith, from)) some (solid.alike i (omega (arith, from)) to);
        }

    -- whether it lies on an edge, and in the window
    on_edge : 1 ≤ a.end → list_any (is_on r p) edges ≡ true → in_window (stroke_at strokes a.end).window r p ≡ true
        → IsHidden test test_after (ink_at strokes) a.end
    on_edge some on seen =
        let any = Any-from_list_any (is_on r p) edges on in
        let same = sym (edge_at any.0 any.1 any.2) ∙ any.3 in
        hides any.0 any.2 some (ap (is_on r p) same ∙ any.4) seen

    abbrev Agrees : Type 0
    Agrees = (test a.end ≡ test_after a.end) ⊎ IsHidden test test_after (ink_at strokes) a.end

    in_the_window : 1 ≤ a.end → list_any (is_on r p) edges ≡ true → (b : Bool) → in_window (stroke_at strokes a.end).window r p ≡ b
        → Agrees
    in_the_window some on true h = inr (on_edge some on h)
    in_the_window some on false h = inl (outside a.end some whole chosen h)

    pub agrees : 1 ≤ a.end → ending_at a.end areas ≡ Some a → (b : Bool) → list_any (is_on r p) edges ≡ b → Agrees
    agrees some is true h = in_the_window some h (in_window (stroke_at strokes a.end).window r p) refl
    agrees some is false h =
        let before : inside_at a.end ≡ is_inside_area a.rule r edges p.x p.y =
        ap (λ (o : Option Area). is_inside_shape (shape_of strokes o) r p.x p.y) is in
        let later : inside_after a.end ≡ is_inside_area a.rule r (edges_of turned a) there.x there.y =
        ap (λ (o : Option Area). is_inside_shape (shape_of turned o) r there.x there.y) is in
        let moved = ap (λ (es : List Segment). is_inside_area a.rule r es there.x there.y) edges_after in
        inl (same_inside a.end some whole chosen
        (later ∙ moved ∙ insides turn page a.rule r edges p low solid.round h ∙ sym before))

  abbrev AgreesAt : ℕ → Type 0
  AgreesAt e = (test e ≡ test_after e) ⊎ IsHidden test test_after (ink_at strokes) e

  -- a position of a selected pen, by the area that it ends
  by_area : 1 ≤ r → All (IsSolid strokes) areas → (e : ℕ) → 1 ≤ e → e ≤ length strokes
      → has_pen pens (stroke_at strokes e).pen ≡ true
      → (o : Option Area) → ending_at e areas ≡ o → AgreesAt e
  by_area low solid e from to h None is =
      let before : inside_at e ≡ false = ap (λ (o : Option Area). is_inside_shape (shape_of strokes o) r p.x p.y) is in
      let later : inside_after e ≡ false = ap (λ (o : Option Area). is_inside_shape (shape_of turned o) r there.x there.y) is in
      inl (same_inside e from to h (later ∙ sym before))
  by_area low solid e from to h (Some a) is =
      let it = found (IsSolid strokes) e areas a solid is in
      let is_end = sym it.1 in
      subst AgreesAt it.1
      (agrees low a it.0 (omega (arith, is_end, to)) (ap (λ (k : ℕ). has_pen pens (stroke_at strokes k).pen) it.1 ∙ h)
      (omega (arith, is_end, from)) (ap (λ (k : ℕ). ending_at k areas) it.1 ∙ is) (list_any (is_on r p) (edges_of strokes a)) refl)

  by_pen : 1 ≤ r → All (IsSolid strokes) areas → (e : ℕ) → 1 ≤ e → e ≤ length strokes → (b : Bool)
      → has_pen pens (stroke_at strokes e).pen ≡ b → AgreesAt e
  by_pen low solid e from to true h = by_area low solid e from to h (ending_at e areas) refl
  by_pen low solid e from to false h = inl (not_tested e from to h)

  -- pens and colours stay
  pen_stays : (s : Segment) (b : Bool) → has_pen pens s.pen ≡ b → (after s).pen ≡ s.pen
  pen_stays s true h = ap (λ (t : Segment). t.pen) (selected pens turn page s h)
  pen_stays s false h = ap (λ (t : Segment). t.pen) (not_selected pens turn page s h)

  colour_stays : (s : Segment) (b : Bool) → has_pen pens s.pen ≡ b → (after s).colour ≡ s.colour
  colour_stays s true h = ap (λ (t : Segment). t.colour) (selected pens turn page s h)
  colour_stays s false h = ap (λ (t : Segment). t.colour) (not_selected pens turn page s h)

  ink_stays : (k : ℕ) → k ≤ length strokes → ink_at turned k ≡ ink_at strokes k
  ink_stays zero to = refl
  ink_stays (suc k) to =
      let s = stroke_at strokes (suc k) in
      let e = stroke_after (suc k) (omega arith) to in
      let b = has_pen pens s.pen in
      ap₂ (λ (n : ℕ) (c : Colour). Some (n, c))
      (ap (λ (t : Segment). t.pen) e ∙ pen_stays s b refl)
      (ap (λ (t : Segment). t.colour) e ∙ colour_stays s b refl)

  pub places : 1 ≤ r → All (IsSolid strokes) areas → ink_shown pens turned areas r there ≡ ink_shown pens strokes areas r p
  places low solid =
      let n = length strokes in
      ap (λ (m : ℕ). ink_at turned (last_at test_after m)) (length-map strokes after)
      ∙ ink_stays (last_at test_after n) (last_within test_after n)
      ∙ last_alike test test_after (ink_at strokes) n
      (λ e from to. by_pen low solid e from to (has_pen pens (stroke_at strokes e).pen) refl)

pixels : (turn : Turn) (page : Page) (dots : Dots) (rows columns row column : ℕ) (pens : PenSet) (strokes : List Segment)
    (areas : List Area)
    → All (IsSolid strokes) areas → HasWholePixels page dots.resolution rows columns → row < rows → column < columns
    → ink_of_pixel pens (turned_strokes pens turn page strokes) areas (turned_page turn page) dots
    (turned_row turn rows columns row column) (turned_column turn rows columns row column)
    ≡ ink_of_pixel pens strokes areas page dots row column
pixels turn page dots rows columns row column pens strokes areas solid whole below before =
    let r = dots.resolution in
    let c = centres turn page r rows columns row column whole below before in
    ap (λ (p : Vector). ink_shown pens (turned_strokes pens turn page strokes) areas r p) (sym c)
    ∙ places turn page r pens strokes areas (centre page.height r row column) dots.at_least solid

pub shapes_show : TurnedShapesShow
shapes_show = record {
  places = λ turn page r pens strokes areas p low solid. places turn page r pens strokes areas p low solid;
  pixels = pixels;
}
