-- What areas cover after any turn: one quarter after another.
use Rattle.std.proofs.Common.{◌≡◌, ◌∙◌, ℕ, ◌≤◌, Bool, true, false, ◌&&◌, ◌||◌, List}
use Rattle.std.proofs.Common.{[], ◌∷◌, ◌++◌, map, refl, sym, ap, ap₂, arith, ℤ, ◌-ℤ◌}
use Rattle.std.proofs.lemmas.Int.{ints}
use Rattle.std.proofs.lemmas.List.{map-append}
use Rattle.std.proofs.lemmas.List.Elements.{All-cons, All-head, All-nil, All-tail}
use Rattle.std.specs.List.{All, flat_map, list_any}
use Rattle.areas.specs.Inside.{is_inside_area}
use Rattle.areas.specs.Laws.{AreRound, IsRound, LeadsTo}
use Rattle.directions.specs.declared.turn.Turn.{Turn}
use Rattle.directions.specs.declared.turn.Turn.TheVariants.{None, Quarter, Half, ThreeQuarters}
use Rattle.plot_page.specs.declared.page.Page.{Page}
use Rattle.plot_page.specs.declared.window.Window.{Window}
use Rattle.plot_page.specs.Segments.{Segment}
use Rattle.polygons.specs.declared.lines.Rule.{Rule}
use Rattle.stroke_raster.specs.Covers.{drawn_width, in_window, is_gap_met}
use Rattle.turning.specs.Filled.{TurnedAreasCover, area_covers, is_on}
use Rattle.turning.specs.Laws.{quarter_more}
use Rattle.turning.specs.Pictures.{turned_point}
use Rattle.turning.specs.Turns.{spot, turned_page, turned_place, turned_segment, turned_window}
use Rattle.stroke_raster.specs.declared.vector.Vector.{Vector}
use Rattle.turning.proofs.PolygonTurns.{first_off, quarter_inside, rest_off}
use Rattle.turning.proofs.Shown.{along, aside, gaps_of, strokes_cover}
use Rattle.turning.proofs.Sums.{strokes_add}
use Rattle.turning.proofs.Untouched.{within_any}

twice : (a b : ℤ) → a -ℤ (a -ℤ b) ≡ b
twice a b = omega (arith, ints)

points_add : (turn : Turn) (page : Page) (r : ℕ) (p : Vector)
    → turned_point Quarter (turned_page turn page) r (turned_point turn page r p) ≡ turned_point (quarter_more turn) page r p
points_add None page r p = refl
points_add Quarter page r p = refl
points_add Half page r p = simp twice refl
points_add ThreeQuarters page r p = simp twice refl

lists_add : (turn : Turn) (page : Page) (edges : List Segment)
    → map (turned_segment Quarter (turned_page turn page)) (map (turned_segment turn page) edges)
    ≡ map (turned_segment (quarter_more turn) page) edges
lists_add turn page [] = refl
lists_add turn page (e ∷ es) = ap₂ (λ (s : Segment) (ss : List Segment). s ∷ ss) (strokes_add turn page e) (lists_add turn page es)

not_turned : (page : Page) (edges : List Segment) → map (turned_segment None page) edges ≡ edges
not_turned page [] = refl
not_turned page (e ∷ es) = ap (λ (ss : List Segment). e ∷ ss) (not_turned page es)

module _ (turn : Turn) (page : Page) where
  abbrev after : Segment → Segment
  after s = turned_segment turn page s

  leads_to : (x y : ℤ) (es : List Segment) (u v : ℤ) → LeadsTo x y es u v
      → LeadsTo (turned_place turn page (spot x y)).x (turned_place turn page (spot x y)).y (map after es)
      (turned_place turn page (spot u v)).x (turned_place turn page (spot u v)).y
  leads_to x y [] u v h = (
    ap₂ (λ (a b : ℤ). (turned_place turn page (spot a b)).x) h.0 h.1,
    ap₂ (λ (a b : ℤ). (turned_place turn page (spot a b)).y) h.0 h.1,
  )
  leads_to x y (e ∷ es) u v h = (
    ap₂ (λ (a b : ℤ). (turned_place turn page (spot a b)).x) h.0 h.1,
    ap₂ (λ (a b : ℤ). (turned_place turn page (spot a b)).y) h.0 h.1,
    leads_to e.bx e.by es u v h.2,
  )

  rounds : (polygons : List (List Segment)) → All IsRound polygons → All IsRound (map (map after) polygons)
  rounds [] h = All-nil IsRound
  rounds (p ∷ ps) h =
      let i = All-head IsRound p ps h in
      All-cons IsRound (map after p) (map (map after) ps)
      (record {
        x = (turned_place turn page (spot i.x i.y)).x;
        y = (turned_place turn page (spot i.x i.y)).y;
        closed = leads_to i.x i.y p i.x i.y i.closed;
      })
      (rounds ps (All-tail IsRound p ps h))

  joined : (polygons : List (List Segment))
      → map after (flat_map (λ polygon. polygon) polygons) ≡ flat_map (λ polygon. polygon) (map (map after) polygons)
  joined [] = refl
  joined (p ∷ ps) =
      map-append after p (flat_map (λ polygon. polygon) ps)
      ∙ ap (λ (ss : List Segment). map after p ++ ss) (joined ps)

  are_round : (edges : List Segment) → AreRound edges → AreRound (map after edges)
  are_round edges h = record {
    polygons = map (map after) h.polygons;
    each = rounds h.polygons h.each;
    is = ap (map after) h.is ∙ joined h.polygons;
  }

  any_mapped : (r : ℕ) (p : Vector) (test there : Segment → Bool) → ((e : Segment) → there (after e) ≡ test e)
      → (edges : List Segment)
      → list_any there (map after edges) ≡ list_any test edges
  any_mapped r p test there same [] = refl
  any_mapped r p test there same (e ∷ es) = ap₂ (λ (a b : Bool). a || b) (same e) (any_mapped r p test there same es)

  off_after : (r : ℕ) (p : Vector) (edges : List Segment)
      → list_any (is_on r (turned_point turn page r p)) (map after edges) ≡ list_any (is_on r p) edges
  off_after r p edges = any_mapped r p (is_on r p) (is_on r (turned_point turn page r p)) (λ e. gaps_of 0 turn page r e p) edges

-- that a turn keeps what is inside
abbrev Keeps : Turn → Type 0
Keeps turn =
    (page : Page) (rule : Rule) (r : ℕ) (edges : List Segment) (p : Vector)
    → 1 ≤ r → AreRound edges → list_any (is_on r p) edges ≡ false
    → is_inside_area rule r (map (turned_segment turn page) edges) (turned_point turn page r p).x (turned_point turn page r p).y
    ≡ is_inside_area rule r edges p.x p.y

one_more : (turn : Turn) → Keeps turn → Keeps (quarter_more turn)
one_more turn keeps page rule r edges p low round off =
    let side = turned_page turn page in
    let edges' = map (turned_segment turn page) edges in
    let q = turned_point turn page r p in
    let here = quarter_inside side r q low rule edges' (are_round turn page edges round) (off_after turn page r p edges ∙ off) in
    ap (λ (z : Vector). is_inside_area rule r (map (turned_segment (quarter_more turn) page) edges) z.x z.y)
    (sym (points_add turn page r p))
    ∙ ap (λ (es : List Segment). is_inside_area rule r es (turned_point Quarter side r q).x (turned_point Quarter side r q).y)
    (sym (lists_add turn page edges))
    ∙ here
    ∙ keeps page rule r edges p low round off

unturned : Keeps None
unturned page rule r edges p low round off = ap (λ (es : List Segment). is_inside_area rule r es p.x p.y) (not_turned page edges)

pub insides : (turn : Turn) → Keeps turn
insides None = unturned
insides Quarter = one_more None unturned
insides Half = one_more Quarter (one_more None unturned)
insides ThreeQuarters = one_more Half (one_more Quarter (one_more None unturned))

implied : (a b : Bool) → (a ≡ true → b ≡ true) → b ≡ false → a ≡ false
implied false b f h = refl
implied true b f h = let k = f refl in absurd (cc (h, k))

none_on : (r : ℕ) (p : Vector) (edges : List Segment) → list_any (λ e. is_gap_met e r p) edges ≡ false
    → list_any (is_on r p) edges ≡ false
none_on r p [] h = refl
none_on r p (e ∷ es) h =
    let near = λ (s : Segment). is_gap_met s r p in
    let here : is_on r p e ≡ false =
    implied (is_on r p e) (near e) (within_any (along r e) (aside r e p) (drawn_width e.width r))
    (first_off (near e) (list_any near es) h) in
    let rest = none_on r p es (rest_off (near e) (list_any near es) h) in
    ap₂ (λ (a b : Bool). a || b) here rest

either : (any a b : Bool) → (any ≡ false → a ≡ b) → (any || a) ≡ (any || b)
either true a b f = refl
either false a b f = f refl

covered : (turn : Turn) (page : Page) (rule : Rule) (r : ℕ) (w : Window) (edges : List Segment) (p : Vector) → 1 ≤ r
    → AreRound edges
    → area_covers rule (turned_window turn page w) (map (turned_segment turn page) edges) r (turned_point turn page r p)
    ≡ area_covers rule w edges r p
covered turn page rule r w edges p low round =
    let q = turned_point turn page r p in
    let es = map (turned_segment turn page) edges in
    let inner = in_window w r p in
    let any = list_any (λ e. is_gap_met e r p) edges in
    let any' = list_any (λ e. is_gap_met e r q) es in
    let inside = is_inside_area rule r edges p.x p.y in
    let inside' = is_inside_area rule r es q.x q.y in
    let same : any' ≡ any =
    any_mapped turn page r p (λ e. is_gap_met e r p) (λ e. is_gap_met e r q) (λ e. strokes_cover.gaps turn page r e p) edges in
    ap (λ (b : Bool). b && (any' || inside')) (strokes_cover.windows turn page r w p)
    ∙ ap (λ (b : Bool). inner && (b || inside')) same
    ∙ ap (λ (b : Bool). inner && b)
    (either any inside' inside (λ h. insides turn page rule r edges p low round (none_on r p edges h)))

pub areas_cover : TurnedAreasCover
areas_cover = record { insides = insides; covered = covered }
