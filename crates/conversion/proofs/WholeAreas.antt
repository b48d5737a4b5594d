-- No area goes on where a sheet ends, or where a label begins or ends, and the edges of each are alike, and lead round closed
-- polygons. If this is so, it is so of a sheet, and after strokes are moved by their pens.
use Rattle.std.proofs.Common.{◌≡◌, ◌∙◌, ◌≤◌, ◌<◌, ◌+◌, ◌-◌, ℕ, ap, ap₂, sym, subst, refl, arith, inl, inr, Bool, true, false, List, [], ◌∷◌, drop, get_or, length, map, nat_eq, nat_le, nat_lt, slice_index_or, take, All}
use Rattle.std.specs.Prelude.{if◌then◌else◌}
use Rattle.std.proofs.lemmas.Bool.{cases_Bool, cases_lt}
use Rattle.std.proofs.lemmas.Bool.Decides.{nat_tests}
use Rattle.std.proofs.lemmas.List.{drop-drop, drop-map, drop-take, get_or_past, length-drop, length-map, length-take, take-map, take-take}
use Rattle.std.proofs.lemmas.List.Elements.{All-cons, All-drop, All-from_get_or, All-head, All-map, All-nil, All-tail, All-take}
use Rattle.areas.specs.Laws.{AreRound}
use Rattle.areas.specs.Shapes.{AreApart, NoneGoesOn, all_counted, areas_between, counted, edges_of}
use Rattle.areas.specs.declared.area.Area.{Area}
use Rattle.areas.proofs.Apart.{has_edges, nothing}
use Rattle.labels.specs.Labels.{AreBeside, LabelShape}
use Rattle.labels.specs.Sheets as labels
use Rattle.plot_page.specs.Pens.{has_pen}
use Rattle.plot_page.specs.Segments.{Segment}
use Rattle.plot_page.specs.declared.pens.PenSet.{PenSet}
use Rattle.full_plot.specs.Drawings.{AreAlike, LooksAs, areas_of_sheet, sheet_strokes}
use Rattle.full_plot.specs.Labels.{labels_kept, labels_of_sheet}
use Rattle.conversion.specs.Rules.{ends_of}
use Rattle.conversion.proofs.MovedEdges.{TakesPlaces, still_round}

abbrev pub IsSolid : List Segment → Type 0
IsSolid edges = AreRound edges × AreAlike edges

pub record AreSolid (strokes : List Segment) (areas : List Area) (ends : List ℕ) (ls : List LabelShape) : Type 0 where
  pub ends_beside : All (λ (end : ℕ). NoneGoesOn end areas) ends
  pub labels_beside : AreBeside areas ls
  pub within : All (λ (a : Area). a.end ≤ length strokes) areas
  pub solid : All (λ (a : Area). IsSolid (edges_of strokes a)) areas

-- an area ends at a number of strokes if it begins before it
abbrev EndsBy : ℕ → Area → Type 0
EndsBy n a = a.first < n → a.end ≤ n

abbrev IsBeside : List Area → LabelShape → Type 0
IsBeside areas l = NoneGoesOn l.first areas × NoneGoesOn l.after areas

pub without_areas : (strokes : List Segment) (ends : List ℕ) (ls : List LabelShape) → AreSolid strokes [] ends ls
without_areas strokes ends ls = record {
  ends_beside = λ n d within. All-nil (EndsBy (get_or ends n d));
  labels_beside = λ n d within. (All-nil (EndsBy (get_or ls n d).first), All-nil (EndsBy (get_or ls n d).after));
  within = All-nil (λ (a : Area). a.end ≤ length strokes);
  solid = All-nil (λ (a : Area). IsSolid (edges_of strokes a));
}

-- as these are those
pub solid_as : {strokes strokes' : List Segment} {areas areas' : List Area} {ends ends' : List ℕ} {ls ls' : List LabelShape}
    → strokes' ≡ strokes → areas' ≡ areas → ends' ≡ ends → ls' ≡ ls → AreSolid strokes areas ends ls → AreSolid strokes' areas' ends' ls'
solid_as p q r t h = rw (p, q, r, t) h

-- with the labels that are kept
pub solid_kept : (keeps : Bool) (strokes : List Segment) (areas : List Area) (ends : List ℕ) (ls : List LabelShape) → AreSolid strokes areas ends ls
    → AreSolid strokes areas ends (labels_kept keeps ls)
solid_kept true strokes areas ends ls h = h
solid_kept false strokes areas ends ls h = record {
  ends_beside = h.ends_beside;
  labels_beside = All-nil (IsBeside areas);
  within = h.within;
  solid = h.solid;
}

-- the areas of a sheet: what holds of each that begins on it
on_sheet : (R Q : Area → Type 0) (at end : ℕ) (areas : List Area) → ((a : Area) → at ≤ a.first → a.first < end → R a → Q (counted at a)) → All R areas
    → All Q (all_counted at (areas_between at end areas))
on_sheet R Q at end [] take_one h = All-nil Q
on_sheet R Q at end (a ∷ more) take_one h =
    let rest : All Q (all_counted at (areas_between at end more)) = on_sheet R Q at end more take_one (All-tail R a more h) in
    elim (cases_Bool (nat_le at a.first)) [
      | inl low ↦ elim (cases_Bool (nat_lt a.first end)) [
        | inl less ↦ (let from : at ≤ a.first = grind (arith, nat_tests, low) in
            let to : a.first < end = grind (arith, nat_tests, less) in
            rw (low, less)
            (All-cons Q (counted at a) (all_counted at (areas_between at end more)) (take_one a from to (All-head R a more h)) rest))
        | inr past ↦ rw (low, past) rest
      ]
      | inr before ↦ rw before rest
    ]

none_on_sheet : (at end n : ℕ) (areas : List Area) → NoneGoesOn n areas → NoneGoesOn (n - at) (all_counted at (areas_between at end areas))
none_on_sheet at end n areas h =
    on_sheet (EndsBy n) (EndsBy (n - at)) at end areas
    (λ (a : Area) (low : at ≤ a.first) (less : a.first < end) (r : EndsBy n a) (before : a.first - at < n - at).
    let ended : a.end ≤ n = r (omega (arith, low, before)) in omega (arith, ended))
    h

labels_on_sheet : (at end : ℕ) (areas : List Area) (ls : List LabelShape) → AreBeside areas ls
    → AreBeside (all_counted at (areas_between at end areas)) (labels.all_counted at (labels.labels_between at end ls))
labels_on_sheet at end areas ls h =
    let some : List Area = all_counted at (areas_between at end areas) in
    let later : List LabelShape = labels.labels_from at ls in
    let from : AreBeside areas later = All-drop (IsBeside areas) (labels.count_to at ls) ls h in
    let to : AreBeside areas (labels.labels_between at end ls) = All-take (IsBeside areas) (labels.count_to end later) later from in
    All-map (IsBeside some) (labels.counted at) (labels.labels_between at end ls)
    (λ n d within. (none_on_sheet at end _ areas (to n d within).0, none_on_sheet at end _ areas (to n d within).1))

-- the edges of an area among the strokes of its sheet
sheet_edges : (strokes : List Segment) (at end : ℕ) (a : Area) → at ≤ a.first → a.first < a.end → a.end ≤ end
    → edges_of (drop at (take end strokes)) (counted at a) ≡ edges_of strokes a
sheet_edges strokes at end a low some high =
    let sheet : List Segment = take end strokes in
    let to_end : at + (a.end - at) ≡ a.end = omega (arith, low, some) in
    let to_first : at + (a.first - at) ≡ a.first = omega (arith, low) in
    ap (drop (a.first - at)) (sym (drop-take at (a.end - at) sheet))
    ∙ drop-drop (a.first - at) at (take (at + (a.end - at)) sheet)
    ∙ ap₂ (λ (m n : ℕ). drop m (take n sheet)) to_first to_end
    ∙ ap (drop a.first) (take-take a.end end strokes high)

edges_on_sheet : (strokes : List Segment) (at end : ℕ) (areas : List Area) → AreApart 0 areas → NoneGoesOn end areas
    → All (λ (a : Area). IsSolid (edges_of strokes a)) areas
    → All (λ (a : Area). IsSolid (edges_of (drop at (take end strokes)) a)) (all_counted at (areas_between at end areas))
edges_on_sheet strokes at end areas apart none h =
    let some : All (λ (a : Area). a.first < a.end) areas =
    All-from_get_or (λ (a : Area). a.first < a.end) areas nothing (λ i within. has_edges 0 i areas apart within) in
    let R : Area → Type 0 = λ a. (a.first < a.end) × EndsBy end a × IsSolid (edges_of strokes a) in
    on_sheet R (λ (a : Area). IsSolid (edges_of (drop at (take end strokes)) a)) at end areas
    (λ (a : Area) (low : at ≤ a.first) (less : a.first < end) (r : R a).
    subst IsSolid (sym (sheet_edges strokes at end a low r.0 (r.1 less))) r.2)
    (λ n d inside. (some n d inside, none n d inside, h n d inside))

within_sheet : (strokes : List Segment) (at end : ℕ) (areas : List Area) → NoneGoesOn end areas → All (λ (a : Area). a.end ≤ length strokes) areas
    → All (λ (a : Area). a.end ≤ length (drop at (take end strokes))) (all_counted at (areas_between at end areas))
within_sheet strokes at end areas none h =
    let R : Area → Type 0 = λ a. EndsBy end a × (a.end ≤ length strokes) in
    on_sheet R (λ (a : Area). a.end ≤ length (drop at (take end strokes))) at end areas
    (λ (a : Area) (low : at ≤ a.first) (less : a.first < end) (r : R a).
    let ended : a.end ≤ end = r.0 less in
    omega (arith, ended, r.1, length-take end strokes, length-drop at (take end strokes)))
    (λ n d inside. (none n d inside, h n d inside))

-- a sheet ends where no area goes on, also with the plot
none_at_end : (areas : List Area) (ends : List ℕ) (k count : ℕ) → All (λ (end : ℕ). NoneGoesOn end areas) ends → All (λ (a : Area). a.end ≤ count) areas
    → NoneGoesOn (slice_index_or ends k count) areas
none_at_end areas ends k count h within = elim (cases_lt k (length ends)) [
  | inl less ↦ h k count less
  | inr more ↦ subst (λ (n : ℕ). NoneGoesOn n areas) (sym (get_or_past ends k count more)) (λ n d inside less. within n d inside)
]

pub solid_on_sheet : (strokes : List Segment) (areas : List Area) (ends : List ℕ) (ls : List LabelShape) (sheet : ℕ) → AreApart 0 areas
    → AreSolid strokes areas ends ls
    → AreSolid (sheet_strokes strokes ends sheet) (areas_of_sheet areas ends (length strokes) sheet) (ends_of sheet ends)
    (labels_of_sheet ls ends (length strokes) sheet)
solid_on_sheet strokes areas ends ls sheet apart h =
    let count : ℕ = length strokes in
    let at : ℕ = slice_index_or (0 ∷ ends) (sheet - 1) count in
    let end : ℕ = slice_index_or ends (sheet - 1) count in
    let none : NoneGoesOn end areas = none_at_end areas ends (sheet - 1) count h.ends_beside h.within in
    let one : AreSolid (drop at (take end strokes)) (all_counted at (areas_between at end areas)) [] (labels.all_counted at (labels.labels_between at end ls)) =
    record {
      ends_beside = All-nil (λ (n : ℕ). NoneGoesOn n (all_counted at (areas_between at end areas)));
      labels_beside = labels_on_sheet at end areas ls h.labels_beside;
      within = within_sheet strokes at end areas none h.within;
      solid = edges_on_sheet strokes at end areas apart none h.solid;
    } in
    elim (cases_Bool (nat_eq sheet 0)) [
      | inl e ↦ rw e h
      | inr e ↦ rw e one
    ]

-- strokes of one pen, as those that are alike are
record AreOfOnePen (strokes : List Segment) : Type 0 where
  pen : ℕ
  each : All (λ (s : Segment). s.pen ≡ pen) strokes

of_one_pen : (edges : List Segment) → AreAlike edges → AreOfOnePen edges
of_one_pen [] h = record { pen = 0; each = All-nil (λ (s : Segment). s.pen ≡ 0) }
of_one_pen (s ∷ more) h =
    let P : Segment → Type 0 = λ t. (t.width ≡ 0) × All (LooksAs t) (s ∷ more) in
    let looks : P s = All-head P s more h in
    record { pen = s.pen; each = λ n d within. ap (λ (t : Segment). t.pen) (sym (looks.1 n d within)) }

-- a change of strokes that takes places to places, and leaves what is alike alike
pub record IsMove (change : Segment → Segment) : Type 0 where
  pub takes : TakesPlaces change
  pub width : (s : Segment) → (change s).width ≡ s.width
  pub looks : (s t : Segment) → LooksAs s t → LooksAs (change s) (change t)

-- strokes that are moved if their pen is selected
module _ (pens : PenSet) (change : Segment → Segment) (moves : IsMove change) where
  abbrev by_pen : Segment → Segment
  by_pen s = if has_pen pens s.pen then change s else s

  -- those of one pen are all changed, or none is
  by_one_pen : (pen : ℕ) (b : Bool) (edges : List Segment) → has_pen pens pen ≡ b → All (λ (s : Segment). s.pen ≡ pen) edges
      → map by_pen edges ≡ map (λ (s : Segment). if b then change s else s) edges
  by_one_pen pen b [] e h = refl
  by_one_pen pen b (s ∷ more) e h =
      let P : Segment → Type 0 = λ t. t.pen ≡ pen in
      let is : has_pen pens s.pen ≡ b = ap (has_pen pens) (All-head P s more h) ∙ e in
      ap₂ (λ (t : Segment) (ts : List Segment). t ∷ ts) (ap (λ (c : Bool). if c then change s else s) is)
      (by_one_pen pen b more e (All-tail P s more h))

  unchanged : (edges : List Segment) → map (λ (s : Segment). s) edges ≡ edges
  unchanged [] = refl
  unchanged (s ∷ more) = ap (λ (ts : List Segment). s ∷ ts) (unchanged more)

  still_alike : (edges : List Segment) → AreAlike edges → AreAlike (map change edges)
  still_alike edges h =
      All-map (λ (s : Segment). (s.width ≡ 0) × All (LooksAs s) (map change edges)) change edges
      (λ n d within.
      let s : Segment = get_or edges n d in (
        moves.width s ∙ (h n d within).0,
        All-map (LooksAs (change s)) change edges (λ m e inside. moves.looks s (get_or edges m e) ((h n d within).1 m e inside)),
      ))

  by_choice : (b : Bool) (edges : List Segment) → IsSolid edges → IsSolid (map (λ (s : Segment). if b then change s else s) edges)
  by_choice true edges h = (still_round change moves.takes edges h.0, still_alike edges h.1)
  by_choice false edges h = subst IsSolid (sym (unchanged edges)) h

  edges_changed : (strokes : List Segment) (a : Area) → IsSolid (edges_of strokes a) → IsSolid (edges_of (map by_pen strokes) a)
  edges_changed strokes a h =
      let edges : List Segment = edges_of strokes a in
      let same : edges_of (map by_pen strokes) a ≡ map by_pen edges =
      ap (drop a.first) (take-map by_pen a.end strokes) ∙ drop-map by_pen a.first (take a.end strokes) in
      let one : AreOfOnePen edges = of_one_pen edges h.1 in
      let b : Bool = has_pen pens one.pen in
      subst IsSolid (sym (same ∙ by_one_pen one.pen b edges refl one.each)) (by_choice b edges h)

  pub solid_changed : (strokes : List Segment) (areas : List Area) (ends : List ℕ) (ls : List LabelShape) → AreSolid strokes areas ends ls
      → AreSolid (map by_pen strokes) areas ends ls
  solid_changed strokes areas ends ls h = record {
    ends_beside = h.ends_beside;
    labels_beside = h.labels_beside;
    within = λ n d inside. rw (length-map strokes by_pen) (h.within n d inside);
    solid = λ n d inside. edges_changed strokes (get_or areas n d) (h.solid n d inside);
  }

-- labels whose letters are moved
pub labels_moved : (g : LabelShape → LabelShape) (strokes : List Segment) (areas : List Area) (ends : List ℕ) (ls : List LabelShape)
    → ((l : LabelShape) → IsBeside areas l → IsBeside areas (g l)) → AreSolid strokes areas ends ls → AreSolid strokes areas ends (map g ls)
labels_moved g strokes areas ends ls same h = record {
  ends_beside = h.ends_beside;
  labels_beside = All-map (IsBeside areas) g ls (λ n d within. same (get_or ls n d) (h.labels_beside n d within));
  within = h.within;
  solid = h.solid;
}
