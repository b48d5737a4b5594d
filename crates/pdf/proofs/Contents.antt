-- What is written stroke by stroke is the text of the runs.
use Rattle.std.proofs.Common.{◌≡◌, ℕ, ◌+◌, ◌-◌, ◌<◌, List, [], ◌∷◌, ◌++◌, length, take, drop, get_or, map, nat_le, nat_lt, Bool, true, false, cond, Option, Some, None, refl, ap, sym, ◌∙◌, append_assoc, append-nil, suc, drop-cons, add-one, arith}
use Rattle.std.proofs.lemmas.Bool.Decides.{nat_tests}
use Rattle.std.proofs.lemmas.List.{map-append, take_all}
use Rattle.areas.specs.Shapes.{Shape, areas_from, beginning_at, shapes, shapes_after}
use Rattle.areas.specs.Views.{areas_in}
use Rattle.areas.specs.declared.among.Areas.{Areas}
use Rattle.areas.specs.declared.area.Area.{Area}
use Rattle.plot_page.specs.Segments.{Segment}
use Rattle.plot_page.specs.declared.page.Page.{Page}
use Rattle.plot_page.specs.declared.pens.PenSet.{PenSet}
use Rattle.polygons.specs.declared.lines.Rule.{Rule}
use Rattle.stroke_runs.specs.declared.role.Role.{Role}
use Rattle.stroke_runs.specs.declared.role.Role.TheVariants.{Stroke, FirstEdge, NextEdge}
use Rattle.stroke_runs.specs.declared.roles.Roles.{Roles}
use Rattle.stroke_runs.specs.declared.runs.Link.{Link}
use Rattle.stroke_runs.specs.declared.runs.Link.TheVariants.{Begins, Apart, Joined}
use Rattle.stroke_runs.specs.Drawn.{begins_drawn, drawn_shapes, is_drawn, is_joined}
use Rattle.stroke_runs.specs.Links.{after_edge, after_stroke, link_of, room_after}
use Rattle.stroke_runs.specs.Roles.{Member, after_first, member, member_if, members_from, members_of, roles_after, roles_at}
use Rattle.stroke_runs.specs.Runs.{Following, going_on, beginning, goes_on, following, runs_of, shape_runs_after, stroke_run}
use Rattle.stroke_runs.specs.Sheets.{sheet_areas}
use Rattle.stroke_runs.proofs.RoleLaws.{members_are}
use Rattle.pdf.specs.declared.path.Path.{Path}
use Rattle.pdf.specs.RunTexts.{begin_text, chain_end_text, end_text, head_text, line_text, rest_text, run_text, runs_text, shapes_text, stroke_text}
use Rattle.pdf.specs.Steps.{first_after, link_text, no_path, open_end, after_step, steps_text, step_text}

-- after a stroke of a run, into which so many more fit, and after an edge of an area; its chain began with the first one
abbrev at_stroke : Segment → ℕ → Segment → Path
at_stroke last room first = record { runs = after_stroke last room; first = Some first }

abbrev at_edge : Rule → Segment → Segment → Path
at_edge rule last first = record { runs = after_edge last rule; first = Some first }

-- after this path the run is ended, and then this text is written
abbrev Ends : Page → Path → List Member → List ℕ → Type 0
Ends page path ms text = steps_text page path ms ≡ open_end path ++ text

runs_join : (page : Page) (rs others : List Shape) → runs_text page (rs ++ others) ≡ runs_text page rs ++ runs_text page others
runs_join page [] others = refl
runs_join page (run ∷ rs) others =
    ap (λ (z : List ℕ). run_text page run.rule run.strokes ++ z) (runs_join page rs others)
    ∙ sym (append_assoc (run_text page run.rule run.strokes) (runs_text page rs) (runs_text page others))

-- what follows in a run of strokes, and after it
abbrev after_text : Page → List ℕ → List (List Segment) → List ℕ → List ℕ
after_text page rest others text = rest ++ end_text None ++ (runs_text page (map stroke_run others) ++ text)

going_text : (l d r e t : List ℕ) → d ≡ r ++ e ++ t → l ++ d ≡ (l ++ r) ++ e ++ t
going_text l d r e t h = ap (λ (z : List ℕ). l ++ z) h ∙ simp append_assoc

begun_text : (e b d r f t u : List ℕ) → d ≡ r ++ f ++ (t ++ u) → (e ++ b) ++ d ≡ e ++ (((b ++ r ++ f) ++ t) ++ u)
begun_text e b d r f t u h = ap (λ (z : List ℕ). (e ++ b) ++ z) h ∙ simp append_assoc

area_text : (e b d r f u : List ℕ) → d ≡ r ++ f ++ u → (e ++ b) ++ d ≡ e ++ ((b ++ r ++ f) ++ u)
area_text e b d r f u h = ap (λ (z : List ℕ). (e ++ b) ++ z) h ∙ simp append_assoc

-- strokes after one of a run
abbrev link : Bool → Bool → Link
link goes joined = cond goes (cond joined Joined Apart) Begins

abbrev rest_with : Bool → Segment → Segment → Segment → List Segment → List ℕ
rest_with joined first last s rest =
    cond joined (line_text s ++ rest_text None first s rest) (chain_end_text None first last ++ stroke_text s ++ rest_text None s s rest)

abbrev stroke_after : Bool → Bool → ℕ → Segment → Segment → Path
stroke_after goes joined room first s =
    record { runs = after_stroke s (room_after (link goes joined) room); first = first_after (link goes joined) (Some first) s }

run_step : (goes joined : Bool) (page : Page) (last : Segment) (room : ℕ) (first s : Segment) (ms : List Member) (f g : Following) (text : List ℕ)
    → ((start : Segment) → steps_text page (at_stroke s (room - 1) start) ms ≡ after_text page (rest_text None start s f.rest) f.runs text)
    → steps_text page (at_stroke s 999 s) ms ≡ after_text page (rest_text None s s g.rest) g.runs text
    → link_text page (at_stroke last room first) None (link goes joined) s ++ steps_text page (stroke_after goes joined room first s) ms
    ≡ after_text page (cond goes (rest_with joined first last s f.rest) []) (cond goes (going_on s f) (beginning s g)).runs text
run_step true true page last room first s ms f g text p q =
    going_text (line_text s) (steps_text page (at_stroke s (room - 1) first) ms) (rest_text None first s f.rest) (end_text None) (runs_text page (map stroke_run f.runs) ++ text) (p first)
run_step true false page last room first s ms f g text p q =
    going_text (stroke_text s) (steps_text page (at_stroke s (room - 1) s) ms) (rest_text None s s f.rest) (end_text None) (runs_text page (map stroke_run f.runs) ++ text) (p s)
run_step false joined page last room first s ms f g text p q =
    begun_text (end_text None) (begin_text page None s) (steps_text page (at_stroke s 999 s) ms) (rest_text None s s g.rest) (end_text None) (runs_text page (map stroke_run g.runs)) text q

rest_step : (goes : Bool) (first last s : Segment) (f g : Following)
    → cond goes (rest_with (is_joined last s) first last s f.rest) []
    ≡ rest_text None first last (cond goes (going_on s f) (beginning s g)).rest
rest_step true first last s f g = refl
rest_step false first last s f g = refl

module _ (page : Page) (ms : List Member) (text : List ℕ) where
  -- after a stroke, the rest of its run is written, and then the other runs of these strokes
  strokes_text : ((last : Segment) (room : ℕ) (first : Segment) → Ends page (at_stroke last room first) ms text)
      → (last : Segment) (room : ℕ) (first : Segment) (ss : List Segment)
      → steps_text page (at_stroke last room first) (map (member Stroke) ss ++ ms)
      ≡ after_text page (rest_text None first last (following last room ss).rest) (following last room ss).runs text
  strokes_text end last room first [] = end last room first
  strokes_text end last room first (s ∷ ss) =
      let f = following s (room - 1) ss in
      let g = following s 999 ss in
      let goes = goes_on last room s in
      run_step goes (is_joined last s) page last room first s (map (member Stroke) ss ++ ms) f g text
      (λ start. strokes_text end s (room - 1) start ss) (strokes_text end s 999 s ss)
      ∙ ap (λ (z : List ℕ). after_text page z (cond goes (going_on s f) (beginning s g)).runs text) (rest_step goes first last s f g)

  begins_step : (path : Path) (s : Segment) (ss : List Segment) (l : Link) → l ≡ Begins
      → steps_text page (at_stroke s 999 s) (map (member Stroke) ss ++ ms) ≡ after_text page (rest_text None s s (following s 999 ss).rest) (following s 999 ss).runs text
      → link_text page path None l s ++ steps_text page (record { runs = after_stroke s (room_after l path.runs.room); first = first_after l path.first s }) (map (member Stroke) ss ++ ms)
      ≡ open_end path ++ (runs_text page (map stroke_run (runs_of (s ∷ ss))) ++ text)
  begins_step path s ss l is h =
      ap (λ (k : Link). link_text page path None k s ++ steps_text page (record { runs = after_stroke s (room_after k path.runs.room); first = first_after k path.first s }) (map (member Stroke) ss ++ ms)) is
      ∙ begun_text (open_end path) (begin_text page None s) (steps_text page (at_stroke s 999 s) (map (member Stroke) ss ++ ms)) (rest_text None s s (following s 999 ss).rest) (end_text None)
      (runs_text page (map stroke_run (following s 999 ss).runs)) text h

  -- strokes of which the first one begins a run
  fresh_text : (path : Path) → ((s : Segment) → link_of path.runs s ≡ Begins) → Ends page path ms text
      → ((last : Segment) (room : ℕ) (first : Segment) → Ends page (at_stroke last room first) ms text)
      → (ss : List Segment) → Ends page path (map (member Stroke) ss ++ ms) (runs_text page (map stroke_run (runs_of ss)) ++ text)
  fresh_text path fresh here end [] = here
  fresh_text path fresh here end (s ∷ ss) = begins_step path s ss (link_of path.runs s) (fresh s) (strokes_text end s 999 s ss)

-- edges after one of an area
edge_step : (joined : Bool) (page : Page) (rule : Rule) (last first e : Segment) (es : List Segment) (ms : List Member) (text : List ℕ)
    → ((start : Segment) → steps_text page (at_edge rule e start) ms ≡ rest_text (Some rule) start e es ++ end_text (Some rule) ++ text)
    → link_text page (at_edge rule last first) (Some rule) (cond joined Joined Apart) e
    ++ steps_text page (record { runs = after_edge e rule; first = first_after (cond joined Joined Apart) (Some first) e }) ms
    ≡ cond joined (line_text e ++ rest_text (Some rule) first e es) (chain_end_text (Some rule) first last ++ stroke_text e ++ rest_text (Some rule) e e es)
    ++ end_text (Some rule) ++ text
edge_step true page rule last first e es ms text h =
    going_text (line_text e) (steps_text page (at_edge rule e first) ms) (rest_text (Some rule) first e es) (end_text (Some rule)) text (h first)
edge_step false page rule last first e es ms text h =
    going_text (chain_end_text (Some rule) first last ++ stroke_text e) (steps_text page (at_edge rule e e) ms) (rest_text (Some rule) e e es) (end_text (Some rule)) text (h e)

edges_text : (page : Page) (rule : Rule) (ms : List Member) (text : List ℕ) → ((last first : Segment) → Ends page (at_edge rule last first) ms text)
    → (last first : Segment) (es : List Segment)
    → steps_text page (at_edge rule last first) (map (member NextEdge) es ++ ms) ≡ rest_text (Some rule) first last es ++ end_text (Some rule) ++ text
edges_text page rule ms text end last first [] = end last first
edges_text page rule ms text end last first (e ∷ es) =
    edge_step (is_joined last e) page rule last first e es (map (member NextEdge) es ++ ms) text (λ start. edges_text page rule ms text end e start es)

-- each of these shapes begins with a stroke that is drawn
abbrev pub AreBegun : PenSet → List Shape → Type 0
AreBegun pens [] = Unit {0}
AreBegun pens (s ∷ ss) = (begins_drawn pens s.strokes ≡ true) × AreBegun pens ss

begun_step : (b : Bool) (pens : PenSet) (s : Shape) (ss : List Shape) → begins_drawn pens s.strokes ≡ b → AreBegun pens ss → AreBegun pens (cond b (s ∷ ss) ss)
begun_step true pens s ss h k = (h, k)
begun_step false pens s ss h k = k

pub are_begun : (pens : PenSet) (ss : List Shape) → AreBegun pens (drawn_shapes pens ss)
are_begun pens [] = tt
are_begun pens (s ∷ ss) = begun_step (begins_drawn pens s.strokes) pens s (drawn_shapes pens ss) refl (are_begun pens ss)

-- the shapes after some strokes, where the first one begins a run
abbrev Written : Page → List Shape → Type 0
Written page ss = (path : Path) → ((s : Segment) → link_of path.runs s ≡ Begins) → (before : List Segment)
    → Ends page path (map (member Stroke) before ++ members_of ss) (runs_text page (shape_runs_after before ss))

no_shapes : (page : Page) → Written page []
no_shapes page path fresh before =
    fresh_text page [] [] path fresh (sym (append-nil (open_end path))) (λ last room first. sym (append-nil (open_end (at_stroke last room first)))) before
    ∙ ap (λ (z : List ℕ). open_end path ++ z) (append-nil (runs_text page (map stroke_run (runs_of before))))

one_shape : (page : Page) (pens : PenSet) (rule : Option Rule) (es : List Segment) (ss : List Shape) → begins_drawn pens es ≡ true → Written page ss
    → Written page (record { strokes = es; rule = rule } ∷ ss)
one_shape page pens None es ss some others path fresh before =
    ap (λ (ms : List Member). steps_text page path ms)
    (sym (append_assoc (map (member Stroke) before) (map (member Stroke) es) (members_of ss)) ∙ ap (λ (ms : List Member). ms ++ members_of ss) (sym (map-append (member Stroke) before es)))
    ∙ others path fresh (before ++ es)
one_shape page pens (Some rule) [] ss some others path fresh before = absurd (cc)
one_shape page pens (Some rule) (e ∷ es) ss some others path fresh before =
    let rest = runs_text page (shape_runs_after [] ss) in
    let ms = map (member NextEdge) es ++ members_of ss in
    let text = run_text page (Some rule) (e ∷ es) ++ rest in
    let area = edges_text page rule (members_of ss) rest (λ last first. others (at_edge rule last first) (λ s. refl) []) e e es in
    let ends : (p : Path) → Ends page p (member (FirstEdge rule) e ∷ ms) text =
    λ p. area_text (open_end p) (begin_text page (Some rule) e) (steps_text page (at_edge rule e e) ms) (rest_text (Some rule) e e es) (end_text (Some rule)) rest area in
    fresh_text page (member (FirstEdge rule) e ∷ ms) text path fresh (ends path) (λ last room first. ends (at_stroke last room first)) before
    ∙ ap (λ (z : List ℕ). open_end path ++ z) (sym (runs_join page (map stroke_run (runs_of before)) (record { strokes = e ∷ es; rule = Some rule } ∷ shape_runs_after [] ss)))

all_written : (page : Page) (pens : PenSet) (ss : List Shape) → AreBegun pens ss → Written page ss
all_written page pens [] h = no_shapes page
all_written page pens (s ∷ ss) h = one_shape page pens s.rule s.strokes ss h.0 (all_written page pens ss h.1)

-- the drawn shapes of a page, taken one stroke at a time
all_from : (areas : List Area) → areas_from 0 areas ≡ areas
all_from [] = refl
all_from (a ∷ bs) =
    let kept : nat_le 0 a.first ≡ true = grind (arith, nat_tests) in
    ap (λ (b : Bool). cond b (a ∷ areas_from 0 bs) (areas_from 0 bs)) kept ∙ ap (λ (zs : List Area). a ∷ zs) (all_from bs)

page_members : (pens : PenSet) (areas : Areas) (from : ℕ) (strokes : List Segment)
    → members_from pens (roles_at areas from) strokes ≡ members_of (drawn_shapes pens (shapes strokes (sheet_areas from (areas_in areas))))
page_members pens areas from strokes =
    let all : take (length strokes) strokes ≡ strokes = take_all (length strokes) strokes (omega arith) in
    let none : from ≡ from + 0 = omega arith in
    ap (λ (n : ℕ). members_from pens (roles_at areas n) strokes) none ∙ ap (λ (zs : List Segment). members_from pens (roles_at areas (from + 0)) zs) (sym all)
    ∙ members_are pens areas from 0 (length strokes) strokes
    ∙ ap (λ (zs : List Segment). members_of (drawn_shapes pens (shapes_after 0 zs (areas_from 0 (sheet_areas from (areas_in areas)))))) all
    ∙ ap (λ (zs : List Area). members_of (drawn_shapes pens (shapes_after 0 strokes zs))) (all_from (sheet_areas from (areas_in areas)))

pub whole : (page : Page) (pens : PenSet) (areas : Areas) (from : ℕ) (strokes : List Segment)
    → head_text page ++ steps_text page no_path (members_from pens (roles_at areas from) strokes) ≡ shapes_text page pens strokes (sheet_areas from (areas_in areas))
whole page pens areas from strokes =
    let all = shapes strokes (sheet_areas from (areas_in areas)) in
    let ss = drawn_shapes pens all in
    ap (λ (ms : List Member). head_text page ++ steps_text page no_path ms) (page_members pens areas from strokes)
    ∙ ap (λ (z : List ℕ). head_text page ++ z) (all_written page pens ss (are_begun pens all) no_path (λ s. refl) [])

-- the next stroke, which is drawn or not
pub step_taken : (page : Page) (path : Path) (role : Option Role) (s : Segment) (rest : List Member)
    → steps_text page path (member_if role s ++ rest) ≡ step_text page path role s ++ steps_text page (after_step path role s) rest
step_taken page path None s rest = refl
step_taken page path (Some role) s rest = refl

-- one stroke more came before the next one
first_before : (b : Bool) (r : Roles) (o : Option Area) → (after_first b r o).before ≡ r.before + 1
first_before b r None = refl
first_before b r (Some a) = refl

before_step : (b : Bool) (r q : Roles) → q.before ≡ r.before + 1 → (cond b (record r { before = r.before + 1 }) q).before ≡ r.before + 1
before_step true r q h = refl
before_step false r q h = h

pub one_before : (pens : PenSet) (r : Roles) (s : Segment) → (roles_after pens r s).before ≡ r.before + 1
one_before pens r s =
    let area = beginning_at r.before (areas_in r.areas) in
    before_step (nat_lt r.before r.end) r (after_first (is_drawn pens s) r area) (first_before (is_drawn pens s) r area)

-- the next of those that are left
pub next_of : {A : Type 0} (xs : List A) (i : ℕ) (x : A) → i < length xs → x ≡ get_or xs i x → drop i xs ≡ x ∷ drop (i + 1) xs
next_of {A} xs i x lt is =
    drop-cons xs i x lt ∙ ap (λ (t : A). t ∷ drop (suc i) xs) (sym is) ∙ ap (λ (n : ℕ). x ∷ drop n xs) (sym (add-one i))
