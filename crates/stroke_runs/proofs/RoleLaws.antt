-- The strokes that are drawn, as they are taken one at a time, are those of the shapes that are drawn.
use Rattle.std.proofs.Common.{◌≡◌, ℕ, zero, suc, ◌+◌, ◌-◌, ◌<◌, ◌≤◌, List, [], ◌∷◌, ◌++◌, length, take, drop, map, Bool, true, false, cond, nat_lt, Option, Some, None, refl, ap, sym, ◌∙◌, arith, append-nil}
use Rattle.std.proofs.lemmas.Bool.Decides.{nat_tests}
use Rattle.std.proofs.lemmas.List.{drop_all, drop-drop, drop-take, take_all}
use Rattle.std.proofs.lemmas.List.Concat.{flat_map-append}
use Rattle.std.proofs.lemmas.List.Elements.{filter-append}
use Rattle.std.specs.Option.{option_map}
use Rattle.areas.specs.Shapes.{AreApart, Shape, area_shape, areas_from, beginning_at, counted, edges_of, shapes_after, stroke_shape}
use Rattle.areas.specs.Views.{areas_in}
use Rattle.areas.specs.declared.among.Areas.{Areas}
use Rattle.areas.specs.declared.area.Area.{Area}
use Rattle.plot_page.specs.Segments.{Segment}
use Rattle.plot_page.specs.declared.pens.PenSet.{PenSet}
use Rattle.polygons.specs.declared.lines.Rule.{Rule}
use Rattle.stroke_runs.specs.declared.role.Role.TheVariants.{Stroke, FirstEdge, NextEdge}
use Rattle.stroke_runs.specs.declared.roles.Roles.{Roles}
use Rattle.stroke_runs.specs.Drawn.{begins_drawn, drawn, drawn_shapes, is_drawn}
use Rattle.stroke_runs.specs.Roles.{Member, after_first, first_role, member, member_if, members_by, members_from, members_of, role_if, roles_at}
use Rattle.areas.proofs.Apart.{apart_in}
use Rattle.stroke_runs.specs.Sheets.{between, shapes_between, sheet_areas}
use Rattle.stroke_runs.proofs.AreaOrder.{Agree, agree_on, apart_on, first_here, later_ones, none_yet}
use Rattle.stroke_runs.proofs.ShapeLaws.{drawn_strokes}

module _ (pens : PenSet) (areas : Areas) where
  abbrev state : ℕ → ℕ → Bool → Roles
  state n e d = record { areas = areas; before = n; end = e; is_drawn = d }

  -- the next stroke, by whether an area goes on, and by the area that begins with it
  abbrev taken : ℕ → ℕ → Bool → Segment → List Segment → Bool → Option Area → List Member
  taken n e d x zs inside begun =
      member_if (cond inside (role_if d NextEdge) (role_if (is_drawn pens x) (first_role begun))) x
      ++ members_from pens (cond inside (state (n + 1) e d) (after_first (is_drawn pens x) (state n e d) begun)) zs

  plain_both : (b : Bool) (x : Segment) (ds : List Segment) (ms ns : List Member) → ms ≡ map (member Stroke) ds ++ ns
      → member_if (role_if b Stroke) x ++ ms ≡ map (member Stroke) (cond b (x ∷ ds) ds) ++ ns
  plain_both true x ds ms ns h = ap (λ (zs : List Member). member Stroke x ∷ zs) h
  plain_both false x ds ms ns h = h

  -- with the next strokes no area begins
  plain : (e : ℕ) (d : Bool) (k n : ℕ) (zs : List Segment) → e ≤ n → ((i : ℕ) → n ≤ i → i < n + k → beginning_at i (areas_in areas) ≡ None)
      → members_from pens (state n e d) zs ≡ map (member Stroke) (drawn pens (take k zs)) ++ members_from pens (state (n + k) e d) (drop k zs)
  plain e d zero n zs low none =
      let on : n ≡ n + 0 = omega arith in
      ap (λ (m : ℕ). members_from pens (state m e d) zs) on
  plain e d (suc k) n [] low none = refl
  plain e d (suc k) n (x ∷ xs) low none =
      let outside : nat_lt n e ≡ false = grind (arith, nat_tests, low) in
      let begun = none n (omega arith) (omega arith) in
      let on : n + 1 + k ≡ n + suc k = omega arith in
      (λ i. taken n e d x xs (outside i) (begun i))
      ∙ plain_both (is_drawn pens x) x (drawn pens (take k xs)) (members_from pens (state (n + 1) e d) xs) (members_from pens (state (n + suc k) e d) (drop k xs))
      (plain e d k (n + 1) xs (omega (arith, low)) (λ i low high. none i (omega (arith, low)) (omega (arith, high)))
      ∙ ap (λ (m : ℕ). map (member Stroke) (drawn pens (take k xs)) ++ members_from pens (state m e d) (drop k xs)) on)

  -- the edges of an area after the first one
  abbrev edges : Bool → List Segment → List Member
  edges d xs = cond d (map (member NextEdge) xs) []

  no_edges : (d : Bool) → [] ≡ edges d []
  no_edges true = refl
  no_edges false = refl

  edge_both : (d : Bool) (x : Segment) (xs : List Segment) (ms ns : List Member) → ms ≡ edges d xs ++ ns → member_if (role_if d NextEdge) x ++ ms ≡ edges d (x ∷ xs) ++ ns
  edge_both true x xs ms ns h = ap (λ (zs : List Member). member NextEdge x ∷ zs) h
  edge_both false x xs ms ns h = h

  next_edges : (e : ℕ) (d : Bool) (k n : ℕ) (zs : List Segment) → n + k ≤ e
      → members_from pens (state n e d) zs ≡ edges d (take k zs) ++ members_from pens (state (n + k) e d) (drop k zs)
  next_edges e d zero n zs within =
      let on : n ≡ n + 0 = omega arith in
      (λ i. no_edges d i ++ members_from pens (state (on i) e d) zs)
  next_edges e d (suc k) n [] within = ap (λ (zs : List Member). zs ++ []) (no_edges d)
  next_edges e d (suc k) n (x ∷ xs) within =
      let inside : nat_lt n e ≡ true = grind (arith, nat_tests, within) in
      let on : n + 1 + k ≡ n + suc k = omega arith in
      ap (λ (b : Bool). taken n e d x xs b (beginning_at n (areas_in areas))) inside
      ∙ edge_both d x (take k xs) (members_from pens (state (n + 1) e d) xs) (members_from pens (state (n + suc k) e d) (drop k xs))
      (next_edges e d k (n + 1) xs (omega (arith, within))
      ∙ ap (λ (m : ℕ). edges d (take k xs) ++ members_from pens (state m e d) (drop k xs)) on)

  -- the members of shapes that are drawn
  abbrev shown : List Shape → List Member
  shown ss = members_of (drawn_shapes pens ss)

  shown_append : (ss ts : List Shape) → shown (ss ++ ts) ≡ shown ss ++ shown ts
  shown_append ss ts =
      ap (λ (zs : List Shape). members_of zs) (filter-append (λ shape. begins_drawn pens shape.strokes) ss ts)
      ∙ flat_map-append (λ shape. members_by shape.rule shape.strokes) (drawn_shapes pens ss) (drawn_shapes pens ts)

  abbrev area_of : Rule → List Segment → Shape
  area_of rule ss = record { strokes = ss; rule = Some rule }

  area_both : (b : Bool) (x : Segment) (rule : Rule) (xs : List Segment) (ms ns : List Member) → ms ≡ edges b xs ++ ns
      → member_if (role_if b (FirstEdge rule)) x ++ ms ≡ members_of (cond b (area_of rule (x ∷ xs) ∷ []) []) ++ ns
  area_both true x rule xs ms ns h =
      ap (λ (zs : List Member). member (FirstEdge rule) x ∷ zs) (h ∙ ap (λ (zs : List Member). zs ++ ns) (sym (append-nil (map (member NextEdge) xs))))
  area_both false x rule xs ms ns h = h

  -- the edges of an area
  area : (e : ℕ) (d : Bool) (k n : ℕ) (a : Area) (zs : List Segment) → e ≤ n → n + suc k ≤ a.end → beginning_at n (areas_in areas) ≡ Some a
      → members_from pens (state n e d) zs
      ≡ shown (area_of a.rule (take (suc k) zs) ∷ []) ++ members_from pens (state (n + suc k) a.end (begins_drawn pens zs)) (drop (suc k) zs)
  area e d k n a [] low within begun = refl
  area e d k n a (x ∷ xs) low within begun =
      let outside : nat_lt n e ≡ false = grind (arith, nat_tests, low) in
      let b = is_drawn pens x in
      let on : n + 1 + k ≡ n + suc k = omega arith in
      (λ i. taken n e d x xs (outside i) (begun i))
      ∙ area_both b x a.rule (take k xs) (members_from pens (state (n + 1) a.end b) xs) (members_from pens (state (n + suc k) a.end b) (drop k xs))
      (next_edges a.end b k (n + 1) xs (omega (arith, within))
      ∙ ap (λ (m : ℕ). edges b (take k xs) ++ members_from pens (state m a.end b) (drop k xs)) on)

  shown_strokes : (ss : List Segment) → shown (map stroke_shape ss) ≡ map (member Stroke) (drawn pens ss)
  shown_strokes ss = ap (λ (zs : List Shape). members_of zs) (drawn_strokes pens ss) ∙ each (drawn pens ss)
    where
      each : (ts : List Segment) → members_of (map stroke_shape ts) ≡ map (member Stroke) ts
      each [] = refl
      each (t ∷ ts) = ap (λ (zs : List Member). member Stroke t ∷ zs) (each ts)

  none_of : (base : ℕ) (o : Option Area) → option_map (counted base) o ≡ None → o ≡ None
  none_of base None h = refl
  none_of base (Some a) h = cc

  module _ (base : ℕ) where
    -- what is taken after these strokes of a sheet
    abbrev Taken : ℕ → ℕ → Bool → List Segment → List Area → Type 0
    Taken at e d ss left = members_from pens (state (base + at) e d) (drop at ss) ≡ shown (shapes_after at ss left)

    last_strokes : (at e : ℕ) (d : Bool) (ss : List Segment) → e ≤ base + at → Agree base (areas_in areas) at [] → Taken at e d ss []
    last_strokes at e d ss low agree =
        let zs = drop at ss in
        let k = length zs in
        plain e d k (base + at) zs low (λ i from high. none_of base (beginning_at i (areas_in areas)) (agree i from))
        ∙ ap (λ (ys : List Segment). map (member Stroke) (drawn pens (take k zs)) ++ members_from pens (state (base + at + k) e d) ys) (drop_all k zs (omega arith))
        ∙ append-nil (map (member Stroke) (drawn pens (take k zs)))
        ∙ ap (λ (ys : List Segment). map (member Stroke) (drawn pens ys)) (take_all k zs (omega arith))
        ∙ sym (shown_strokes zs)

    -- the strokes before the next area
    strokes_before : (at m e : ℕ) (d : Bool) (ss : List Segment) → at ≤ m → e ≤ base + at → ((i : ℕ) → base + at ≤ i → i < base + m → beginning_at i (areas_in areas) ≡ None)
        → members_from pens (state (base + at) e d) (drop at ss) ≡ shown (map stroke_shape (drop at (take m ss))) ++ members_from pens (state (base + m) e d) (drop m ss)
    strokes_before at m e d ss order low none =
        let k = m - at in
        let later : at + k ≡ m = omega (arith, order) in
        let number : base + at + k ≡ base + m = omega (arith, order) in
        let front : take k (drop at ss) ≡ drop at (take m ss) = sym (drop-take at k ss) ∙ ap (λ (j : ℕ). drop at (take j ss)) later in
        let back : drop k (drop at ss) ≡ drop m ss = drop-drop k at ss ∙ ap (λ (j : ℕ). drop j ss) later in
        plain e d k (base + at) (drop at ss) low (λ i from high. none i from (omega (arith, high, number)))
        ∙ (λ i. map (member Stroke) (drawn pens (front i)) ++ members_from pens (state (number i) e d) (back i))
        ∙ ap (λ (ms : List Member). ms ++ members_from pens (state (base + m) e d) (drop m ss)) (sym (shown_strokes (drop at (take m ss))))

    -- an area, found among all
    area_found : (e : ℕ) (d : Bool) (ss : List Segment) (a b : Area) → e ≤ base + a.first → a.first < a.end → counted base b ≡ a → beginning_at (base + a.first) (areas_in areas) ≡ Some b
        → members_from pens (state (base + a.first) e d) (drop a.first ss)
        ≡ shown (area_shape ss a ∷ []) ++ members_from pens (state (base + a.end) b.end (begins_drawn pens (drop a.first ss))) (drop a.end ss)
    area_found e d ss a b low some is begun =
        let m = a.first in
        let k = a.end - m - 1 in
        let zs = drop m ss in
        let ends : b.end - base ≡ a.end = ap (λ (x : Area). x.end) is in
        let rule : b.rule ≡ a.rule = ap (λ (x : Area). x.rule) is in
        let size : m + suc k ≡ a.end = omega (arith, some) in
        let number : base + m + suc k ≡ base + a.end = omega (arith, some) in
        let front : take (suc k) zs ≡ edges_of ss a = sym (drop-take m (suc k) ss) ∙ ap (λ (j : ℕ). drop m (take j ss)) size in
        let back : drop (suc k) zs ≡ drop a.end ss = drop-drop (suc k) m ss ∙ ap (λ (j : ℕ). drop j ss) size in
        area e d k (base + m) b zs low (omega (arith, ends, some, number)) begun
        ∙ (λ i. shown (area_of (rule i) (front i) ∷ []) ++ members_from pens (state (number i) b.end (begins_drawn pens zs)) (back i))

    one_more : (at m : ℕ) (ss : List Segment) (a : Area) (rest : List Shape) → shown (map stroke_shape (drop at (take m ss))) ++ (shown (area_shape ss a ∷ []) ++ shown rest)
        ≡ shown (map stroke_shape (drop at (take m ss)) ++ area_shape ss a ∷ rest)
    one_more at m ss a rest =
        ap (λ (ms : List Member). shown (map stroke_shape (drop at (take m ss))) ++ ms) (sym (shown_append (area_shape ss a ∷ []) rest))
        ∙ sym (shown_append (map stroke_shape (drop at (take m ss))) (area_shape ss a ∷ rest))

    begun_area : (o : Option Area) (at e : ℕ) (d : Bool) (ss : List Segment) (a : Area) (more : List Area) → beginning_at (base + a.first) (areas_in areas) ≡ o → option_map (counted base) o ≡ Some a → at ≤ a.first → a.first < a.end → e ≤ base + at
        → ((i : ℕ) → base + at ≤ i → i < base + a.first → beginning_at i (areas_in areas) ≡ None)
        → ((end : ℕ) (b : Bool) → end ≤ base + a.end → Taken a.end end b ss more) → Taken at e d ss (a ∷ more)
    begun_area None at e d ss a more found is order some low none rest = cc
    begun_area (Some b) at e d ss a more found is order some low none rest =
        let same : counted base b ≡ a = cc in
        let ends : b.end - base ≡ a.end = ap (λ (x : Area). x.end) same in
        strokes_before at a.first e d ss order low none
        ∙ ap (λ (ms : List Member). shown (map stroke_shape (drop at (take a.first ss))) ++ ms) (
        area_found e d ss a b (omega (arith, low, order)) some same found
        ∙ ap (λ (ms : List Member). shown (area_shape ss a ∷ []) ++ ms) (rest b.end (begins_drawn pens (drop a.first ss)) (omega (arith, ends, some)))
        )
        ∙ one_more at a.first ss a (shapes_after a.end ss more)

    all_taken : (left : List Area) (at e : ℕ) (d : Bool) (ss : List Segment) → AreApart at left → Agree base (areas_in areas) at left → e ≤ base + at → Taken at e d ss left
    all_taken [] at e d ss apart agree low = last_strokes at e d ss low agree
    all_taken (a ∷ more) at e d ss apart agree low =
        let here = agree (base + a.first) (omega (arith, apart.0)) ∙ first_here (base + a.first - base) a more (omega arith) in
        begun_area (beginning_at (base + a.first) (areas_in areas)) at e d ss a more refl here apart.0 apart.1 low
        (λ i from high. none_of base (beginning_at i (areas_in areas)) (agree i from ∙ none_yet at (i - base) a more apart (omega (arith, from, high))))
        (λ end b last. all_taken more a.end end b ss apart.2 (λ i from. agree i (omega (arith, from, apart.0, apart.1)) ∙ later_ones (i - base) a more (omega (arith, from, apart.1))) last)

-- those that are taken of the strokes of a sheet after the first ones
pub members_are : (pens : PenSet) (areas : Areas) (base at end : ℕ) (strokes : List Segment)
    → members_from pens (roles_at areas (base + at)) (between strokes at end) ≡ members_of (drawn_shapes pens (shapes_between strokes (sheet_areas base (areas_in areas)) at end))
members_are pens areas base at end strokes =
    let apart = apart_in areas in
    all_taken pens areas base (areas_from at (sheet_areas base (areas_in areas))) at 0 false (take end strokes) (apart_on base at (areas_in areas) apart) (agree_on base at (areas_in areas) apart) (omega arith)
