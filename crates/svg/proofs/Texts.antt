-- What is written stroke by stroke is the text of the paths.
use Rattle.std.proofs.Common.{◌≡◌, ℕ, ◌+◌, ◌-◌, ◌<◌, List, [], ◌∷◌, ◌++◌, flat_map, length, take, drop, get_or, Bool, true, false, cond, refl, ap, sym, ◌∙◌, append_assoc, append-nil, zero, suc, max, ◌≤◌, min, nat_eq, nat_lt, arith, length-append, length-drop, map, Option, Some, None, is_some}
use Rattle.std.proofs.lemmas.List.{drop_more, length-take, map-append}
use Rattle.std.proofs.lemmas.List.Concat.{flat_map-append}
use Rattle.labels.specs.Labels.{LabelShape}
use Rattle.labels.specs.Sheets.{count_to}
use Rattle.plot_page.specs.Segments.{Segment}
use Rattle.plot_page.specs.declared.page.Page.{Page}
use Rattle.plot_page.specs.declared.pens.PenSet.{PenSet}
use Rattle.areas.specs.Shapes.{Shape, beginning_at}
use Rattle.areas.specs.Views.{areas_in}
use Rattle.areas.specs.declared.among.Areas.{Areas}
use Rattle.areas.specs.declared.area.Area.{Area}
use Rattle.polygons.specs.declared.lines.Rule.{Rule}
use Rattle.stroke_runs.proofs.RoleLaws.{members_are}
use Rattle.stroke_runs.proofs.ShapeLaws.{HaveStrokes, drawn_have}
use Rattle.stroke_runs.specs.declared.role.Role.{Role}
use Rattle.stroke_runs.specs.declared.role.Role.TheVariants.{Stroke, FirstEdge, NextEdge}
use Rattle.stroke_runs.specs.declared.roles.Roles.{Roles}
use Rattle.stroke_runs.specs.declared.runs.Link.{Link}
use Rattle.stroke_runs.specs.declared.runs.Link.TheVariants.{Begins, Apart, Joined}
use Rattle.stroke_runs.specs.declared.runs.Runs.{Runs}
use Rattle.stroke_runs.specs.Drawn.{drawn_shapes, is_drawn, is_joined}
use Rattle.stroke_runs.specs.Links.{after_edge, after_stroke, at_start, link_of, room_after, runs_after, runs_as}
use Rattle.stroke_runs.specs.Roles.{Member, after_first, member, member_if, members_by, members_from, members_of, role_of, roles_after, roles_at}
use Rattle.stroke_runs.specs.Runs.{Following, going_on, beginning, goes_on, following, runs_of, shape_runs_after, stroke_run}
use Rattle.svg.specs.Commands.{Command, command_text, move, MoveTo}
use Rattle.stroke_runs.specs.Sheets.{between, shapes_between, sheet_areas}
use Rattle.svg.specs.Sheets.{labelled_after, sheet_between}
use Rattle.svg.specs.Documents.{sheet_text, sheets_text}
use Rattle.svg.specs.Paths.{Path, clip_of, end_text, line_of, path_of, path_text, paths_of, paths_text, rest_commands, run_paths, start_text}
use Rattle.svg.specs.Places.{end_of, start_of}
use Rattle.svg.specs.Steps.{after_step, begun_text, link_text, member_text, open_end, runs_if, step_text, steps_text, text_if}

-- the text of commands
abbrev texts : List Command → List ℕ
texts cs = flat_map command_text cs

-- what is written for strokes that are all drawn, and what they are
abbrev members_text : Page → Runs → List Member → List ℕ
members_text page r [] = open_end r
members_text page r (m ∷ ms) = member_text page r m.stroke m.role ++ members_text page (runs_as r m.stroke m.role) ms

member_step : (o : Option Role) (page : Page) (pens : PenSet) (roles : Roles) (r : Runs) (s : Segment) (ss : List Segment) → ((q : Runs) → steps_text page pens roles q ss ≡ members_text page q (members_from pens roles ss))
    → text_if page r s o ++ steps_text page pens roles (runs_if r s o) ss ≡ members_text page r (member_if o s ++ members_from pens roles ss)
member_step None page pens roles r s ss h = h r
member_step (Some role) page pens roles r s ss h = ap (λ (z : List ℕ). member_text page r s role ++ z) (h (runs_as r s role))

-- a stroke that is not drawn changes nothing
only_drawn : (page : Page) (pens : PenSet) (roles : Roles) (r : Runs) (ss : List Segment) → steps_text page pens roles r ss ≡ members_text page r (members_from pens roles ss)
only_drawn page pens roles r [] = refl
only_drawn page pens roles r (s ∷ ss) =
    member_step (role_of pens roles s) page pens (roles_after pens roles s) r s ss (λ q. only_drawn page pens (roles_after pens roles s) q ss)

-- what is written for strokes that are all drawn, and no edges
abbrev drawn_text : Page → Runs → List Segment → List ℕ
drawn_text page r [] = open_end r
drawn_text page r (s ∷ ss) = link_text page r None (link_of r s) s ++ drawn_text page (runs_after r s) ss

-- the paths of runs of strokes
abbrev plain_paths : Page → List (List Segment) → List Path
plain_paths page [] = []
plain_paths page ([] ∷ runs) = plain_paths page runs
plain_paths page ((s ∷ ss) ∷ runs) = path_of page None s ss ∷ plain_paths page runs

-- what follows in the run, and after it
abbrev after_text : Page → List ℕ → List (List Segment) → List ℕ
after_text page rest others = rest ++ end_text ++ flat_map path_text (plain_paths page others)

going_text : (l d r e t : List ℕ) → d ≡ r ++ e ++ t → l ++ d ≡ (l ++ r) ++ e ++ t
going_text l d r e t h = ap (λ (z : List ℕ). l ++ z) h ∙ simp append_assoc

-- a path that begins: a is what comes before its commands, m the first command, l the second one
begun_path : (a m l d r e t : List ℕ) → d ≡ r ++ e ++ t → (a ++ m ++ l) ++ d ≡ (a ++ (m ++ (l ++ r)) ++ e) ++ t
begun_path a m l d r e t h = ap (λ (z : List ℕ). (a ++ m ++ l) ++ z) h ∙ simp append_assoc

begun_text_after : (e a m l d r t : List ℕ) → d ≡ r ++ e ++ t → (e ++ (a ++ m ++ l)) ++ d ≡ e ++ ((a ++ (m ++ (l ++ r)) ++ e) ++ t)
begun_text_after e a m l d r t h = append_assoc e (a ++ m ++ l) d ∙ ap (λ (z : List ℕ). e ++ z) (begun_path a m l d r e t h)

abbrev link : Bool → Bool → Link
link goes joined = cond goes (cond joined Joined Apart) Begins

-- the commands of the next stroke in a run
abbrev more : Bool → Page → Segment → Segment → List Command
more joined page last s = cond joined (line_of page s ∷ []) (move (end_of page last) (start_of page s) ∷ line_of page s ∷ [])

two : (a b : List ℕ) → a ++ b ≡ a ++ (b ++ [])
two a b = ap (λ (z : List ℕ). a ++ z) (sym (append-nil b))

run_step : (goes joined : Bool) (page : Page) (last : Segment) (room : ℕ) (s : Segment) (ss : List Segment) (f g : Following)
    → drawn_text page (after_stroke s (room - 1)) ss ≡ after_text page (texts (rest_commands page s f.rest)) f.runs
    → drawn_text page (after_stroke s 999) ss ≡ after_text page (texts (rest_commands page s g.rest)) g.runs
    → link_text page (after_stroke last room) None (link goes joined) s ++ drawn_text page (after_stroke s (room_after (link goes joined) room)) ss
    ≡ after_text page (cond goes (texts (more joined page last s ++ rest_commands page s f.rest)) []) (cond goes (going_on s f) (beginning s g)).runs
run_step true true page last room s ss f g p q =
    let l = command_text (line_of page s) in
    going_text l (drawn_text page (after_stroke s (room - 1)) ss) (texts (rest_commands page s f.rest)) end_text (flat_map path_text (plain_paths page f.runs)) p
run_step true false page last room s ss f g p q =
    let m = command_text (move (end_of page last) (start_of page s)) in
    let l = command_text (line_of page s) in
    going_text (m ++ l) (drawn_text page (after_stroke s (room - 1)) ss) (texts (rest_commands page s f.rest)) end_text (flat_map path_text (plain_paths page f.runs)) p
    ∙ ap (λ (z : List ℕ). after_text page z f.runs) (append_assoc m l (texts (rest_commands page s f.rest)))
run_step false joined page last room s ss f g p q =
    begun_text_after end_text (start_text s.pen s.colour (max 24 s.width) None (clip_of page s.window)) (command_text (MoveTo (start_of page s))) (command_text (line_of page s)) (drawn_text page (after_stroke s 999) ss) (texts (rest_commands page s g.rest)) (flat_map path_text (plain_paths page g.runs)) q

rest_step : (goes : Bool) (page : Page) (last s : Segment) (f g : Following) → cond goes (texts (more (is_joined last s) page last s ++ rest_commands page s f.rest)) [] ≡ texts (rest_commands page last (cond goes (going_on s f) (beginning s g)).rest)
rest_step true page last s f g = refl
rest_step false page last s f g = refl

-- after a stroke, the rest of its run is written, and then the other runs
run_text : (page : Page) (last : Segment) (room : ℕ) (ss : List Segment) → drawn_text page (after_stroke last room) ss ≡ after_text page (texts (rest_commands page last (following last room ss).rest)) (following last room ss).runs
run_text page last room [] = refl
run_text page last room (s ∷ ss) =
    let f = following s (room - 1) ss in
    let g = following s 999 ss in
    let goes = goes_on last room s in
    run_step goes (is_joined last s) page last room s ss f g (run_text page s (room - 1) ss) (run_text page s 999 ss)
    ∙ ap (λ (z : List ℕ). after_text page z (cond goes (going_on s f) (beginning s g)).runs) (rest_step goes page last s f g)

all_runs : (page : Page) (ss : List Segment) → drawn_text page at_start ss ≡ flat_map path_text (plain_paths page (runs_of ss))
all_runs page [] = refl
all_runs page (s ∷ ss) =
    let f = following s 999 ss in
    begun_path (start_text s.pen s.colour (max 24 s.width) None (clip_of page s.window)) (command_text (MoveTo (start_of page s))) (command_text (line_of page s)) (drawn_text page (after_stroke s 999) ss) (texts (rest_commands page s f.rest)) end_text (flat_map path_text (plain_paths page f.runs)) (run_text page s 999 ss)

plain_paths_of : (page : Page) (runs : List (List Segment)) → plain_paths page runs ≡ paths_of page (map stroke_run runs)
plain_paths_of page [] = refl
plain_paths_of page ([] ∷ runs) = plain_paths_of page runs
plain_paths_of page ((s ∷ ss) ∷ runs) = ap (λ (ps : List Path). path_of page None s ss ∷ ps) (plain_paths_of page runs)

-- the first of these strokes is no edge, or it is the first one of an area; no stroke goes on the run before them
abbrev IsFirst : ℕ → Role → Type 0
IsFirst room Stroke = room ≡ 0
IsFirst room (FirstEdge rule) = Unit {0}
IsFirst room NextEdge = ⊥

abbrev AreFirst : ℕ → List Member → Type 0
AreFirst room [] = Unit {0}
AreFirst room (m ∷ ms) = IsFirst room m.role

-- after a run that has begun, and is not gone on
abbrev begun_run : Segment → ℕ → Option Rule → Runs
begun_run s room rule = record { last = Some s; room = room; rule = rule }

begun_anew : (e b rest : List ℕ) → (e ++ b) ++ rest ≡ e ++ (([] ++ b) ++ rest)
begun_anew e b rest = append_assoc e b rest

stroke_anew : (page : Page) (s : Segment) (room : ℕ) (rule : Option Rule) (t : Segment) (ms : List Member) → room ≡ 0
    → members_text page (begun_run s room rule) (member Stroke t ∷ ms) ≡ end_text ++ members_text page at_start (member Stroke t ∷ ms)
stroke_anew page s room rule t ms none =
    ap (λ (n : ℕ). members_text page (begun_run s n rule) (member Stroke t ∷ ms)) none
    ∙ begun_anew end_text (begun_text page None t) (members_text page (after_stroke t 999) ms)

first_anew : (page : Page) (s : Segment) (room : ℕ) (rule : Option Rule) (m : Member) (ms : List Member) (role : Role) → m.role ≡ role → IsFirst room role
    → members_text page (begun_run s room rule) (m ∷ ms) ≡ end_text ++ members_text page at_start (m ∷ ms)
first_anew page s room rule m ms Stroke is h =
    let same : m ≡ member Stroke m.stroke = ap (λ (r : Role). member r m.stroke) is in
    ap (λ (k : Member). members_text page (begun_run s room rule) (k ∷ ms)) same
    ∙ stroke_anew page s room rule m.stroke ms h
    ∙ ap (λ (k : Member). end_text ++ members_text page at_start (k ∷ ms)) (sym same)
first_anew page s room rule m ms (FirstEdge filled) is h =
    let same : m ≡ member (FirstEdge filled) m.stroke = ap (λ (r : Role). member r m.stroke) is in
    ap (λ (k : Member). members_text page (begun_run s room rule) (k ∷ ms)) same
    ∙ begun_anew end_text (begun_text page (Some filled) m.stroke) (members_text page (after_edge m.stroke filled) ms)
    ∙ ap (λ (k : Member). end_text ++ members_text page at_start (k ∷ ms)) (sym same)
first_anew page s room rule m ms NextEdge is h = absurd h

-- a run ends before them
ends_before : (page : Page) (s : Segment) (room : ℕ) (rule : Option Rule) (ms : List Member) → AreFirst room ms
    → members_text page (begun_run s room rule) ms ≡ end_text ++ members_text page at_start ms
ends_before page s room rule [] h = sym (append-nil end_text)
ends_before page s room rule (m ∷ ms) h = first_anew page s room rule m ms m.role refl h

-- the first of these strokes is the first edge of an area
abbrev IsArea : Role → Type 0
IsArea Stroke = ⊥
IsArea (FirstEdge rule) = Unit {0}
IsArea NextEdge = ⊥

abbrev AreAreas : List Member → Type 0
AreAreas [] = Unit {0}
AreAreas (m ∷ ms) = IsArea m.role

area_first : (room : ℕ) (role : Role) → IsArea role → IsFirst room role
area_first room Stroke h = absurd h
area_first room (FirstEdge rule) h = tt
area_first room NextEdge h = absurd h

areas_first : (room : ℕ) (ms : List Member) → AreAreas ms → AreFirst room ms
areas_first room [] h = tt
areas_first room (m ∷ ms) h = area_first room m.role h

-- strokes before an area
strokes_then : (page : Page) (last : Segment) (room : ℕ) (ss : List Segment) (ms : List Member) → AreAreas ms
    → members_text page (after_stroke last room) (map (member Stroke) ss ++ ms) ≡ drawn_text page (after_stroke last room) ss ++ members_text page at_start ms
strokes_then page last room [] ms h = ends_before page last room None ms (areas_first room ms h)
strokes_then page last room (s ∷ ss) ms h =
    let r = after_stroke last room in
    let text = link_text page r None (link_of r s) s in
    ap (λ (z : List ℕ). text ++ z) (strokes_then page s (room_after (link_of r s) room) ss ms h)
    ∙ sym (append_assoc text (drawn_text page (runs_after r s) ss) (members_text page at_start ms))

all_strokes_then : (page : Page) (ss : List Segment) (ms : List Member) → AreAreas ms → members_text page at_start (map (member Stroke) ss ++ ms) ≡ drawn_text page at_start ss ++ members_text page at_start ms
all_strokes_then page [] ms h = refl
all_strokes_then page (s ∷ ss) ms h =
    let text = link_text page at_start None Begins s in
    ap (λ (z : List ℕ). text ++ z) (strokes_then page s 999 ss ms h)
    ∙ sym (append_assoc text (drawn_text page (after_stroke s 999) ss) (members_text page at_start ms))

-- the other edges of an area, and what follows
edge_then : (joined : Bool) (page : Page) (s t : Segment) (rest texts_after others : List ℕ) → rest ≡ texts_after ++ others
    → link_text page (begun_run s 0 None) None (cond joined Joined Apart) t ++ rest ≡ (texts (more joined page s t) ++ texts_after) ++ others
edge_then true page s t rest after others h =
    let l = command_text (line_of page t) in
    ap (λ (z : List ℕ). l ++ z) h ∙ simp append_assoc
edge_then false page s t rest after others h =
    let m = command_text (move (end_of page s) (start_of page t)) in
    let l = command_text (line_of page t) in
    ap (λ (z : List ℕ). (m ++ l) ++ z) h ∙ simp append_assoc

edge_text : (joined : Bool) (page : Page) (s t : Segment) (rule : Rule) → link_text page (after_edge s rule) (Some rule) (cond joined Joined Apart) t ≡ link_text page (begun_run s 0 None) None (cond joined Joined Apart) t
edge_text true page s t rule = refl
edge_text false page s t rule = refl

edges_then : (page : Page) (s : Segment) (rule : Rule) (ss : List Segment) (ms : List Member) → AreFirst 0 ms
    → members_text page (after_edge s rule) (map (member NextEdge) ss ++ ms) ≡ texts (rest_commands page s ss) ++ (end_text ++ members_text page at_start ms)
edges_then page s rule [] ms h = ends_before page s 0 (Some rule) ms h
edges_then page s rule (t ∷ ts) ms h =
    let joined = is_joined s t in
    let others = end_text ++ members_text page at_start ms in
    ap (λ (z : List ℕ). z ++ members_text page (after_edge t rule) (map (member NextEdge) ts ++ ms)) (edge_text joined page s t rule)
    ∙ edge_then joined page s t (members_text page (after_edge t rule) (map (member NextEdge) ts ++ ms)) (texts (rest_commands page t ts)) others (edges_then page t rule ts ms h)
    ∙ ap (λ (z : List ℕ). z ++ others) (sym (flat_map-append command_text (more joined page s t) (rest_commands page t ts)))

area_text : (a m l r e t : List ℕ) → ([] ++ (a ++ m ++ l)) ++ (r ++ (e ++ t)) ≡ (a ++ (m ++ (l ++ r)) ++ e) ++ t
area_text a m l r e t = simp append_assoc

-- an area, and what follows
area_then : (page : Page) (rule : Rule) (s : Segment) (ss : List Segment) (ms : List Member) → AreFirst 0 ms
    → members_text page at_start (members_by (Some rule) (s ∷ ss) ++ ms) ≡ path_text (path_of page (Some rule) s ss) ++ members_text page at_start ms
area_then page rule s ss ms h =
    let begun = begun_text page (Some rule) s in
    ap (λ (z : List ℕ). ([] ++ begun) ++ z) (edges_then page s rule ss ms h)
    ∙ area_text (start_text s.pen s.colour (max 24 s.width) (Some rule) (clip_of page s.window)) (command_text (MoveTo (start_of page s))) (command_text (line_of page s)) (texts (rest_commands page s ss)) end_text (members_text page at_start ms)

begun_by : (rule : Option Rule) (ss : List Segment) (ms : List Member) → 1 ≤ length ss → AreFirst 0 (members_by rule ss ++ ms)
begun_by rule [] ms h = absurd (omega (arith, h))
begun_by None (s ∷ ss) ms h = refl
begun_by (Some rule) (s ∷ ss) ms h = tt

begun_shapes : (ss : List Shape) → HaveStrokes ss → AreFirst 0 (members_of ss)
begun_shapes [] h = tt
begun_shapes (s ∷ ss) h = begun_by s.rule s.strokes (members_of ss) h.0

runs_text : (page : Page) (before : List Segment) → drawn_text page at_start before ≡ flat_map path_text (paths_of page (map stroke_run (runs_of before)))
runs_text page before = all_runs page before ∙ ap (λ (ps : List Path). flat_map path_text ps) (plain_paths_of page (runs_of before))

-- an area after strokes
area_after : (page : Page) (before : List Segment) (shape : Shape) (rule : Option Rule) (strokes : List Segment) (ss runs : List Shape) → shape.rule ≡ rule → shape.strokes ≡ strokes → is_some rule ≡ true → 1 ≤ length strokes → HaveStrokes ss
    → members_text page at_start (members_of ss) ≡ flat_map path_text (paths_of page runs)
    → members_text page at_start (map (member Stroke) before ++ (members_by rule strokes ++ members_of ss)) ≡ flat_map path_text (paths_of page (map stroke_run (runs_of before) ++ shape ∷ runs))
area_after page before shape None strokes ss runs e f some h k rest = cc
area_after page before shape (Some rule) [] ss runs e f some h k rest = absurd (omega (arith, h))
area_after page before shape (Some rule) (s ∷ strokes) ss runs e f some h k rest =
    let front = map stroke_run (runs_of before) in
    let ms = members_of ss in
    let path : run_paths page shape.rule shape.strokes ≡ path_of page (Some rule) s strokes ∷ [] = λ i. run_paths page (e i) (f i) in
    all_strokes_then page before (members_by (Some rule) (s ∷ strokes) ++ ms) tt
    ∙ (λ i. runs_text page before i ++ area_then page rule s strokes ms (begun_shapes ss k) i)
    ∙ ap (λ (z : List ℕ). flat_map path_text (paths_of page front) ++ (path_text (path_of page (Some rule) s strokes) ++ z)) rest
    ∙ ap (λ (ps : List Path). flat_map path_text (paths_of page front) ++ flat_map path_text (ps ++ paths_of page runs)) (sym path)
    ∙ sym (flat_map-append path_text (paths_of page front) (paths_of page (shape ∷ runs)))
    ∙ ap (λ (ps : List Path). flat_map path_text ps) (sym (flat_map-append (λ run. run_paths page run.rule run.strokes) front (shape ∷ runs)))

-- strokes after strokes
strokes_after : (before : List Segment) (rule : Option Rule) (strokes : List Segment) (ms : List Member) → is_some rule ≡ false
    → map (member Stroke) before ++ (members_by rule strokes ++ ms) ≡ map (member Stroke) (before ++ strokes) ++ ms
strokes_after before None strokes ms e =
    sym (append_assoc (map (member Stroke) before) (map (member Stroke) strokes) ms) ∙ ap (λ (zs : List Member). zs ++ ms) (sym (map-append (member Stroke) before strokes))
strokes_after before (Some rule) strokes ms e = cc

shape_step : (b : Bool) (page : Page) (before : List Segment) (s : Shape) (ss area others : List Shape) → is_some s.rule ≡ b → 1 ≤ length s.strokes → HaveStrokes ss
    → members_text page at_start (members_of ss) ≡ flat_map path_text (paths_of page area)
    → members_text page at_start (map (member Stroke) (before ++ s.strokes) ++ members_of ss) ≡ flat_map path_text (paths_of page others)
    → members_text page at_start (map (member Stroke) before ++ members_of (s ∷ ss)) ≡ flat_map path_text (paths_of page (cond b (map stroke_run (runs_of before) ++ s ∷ area) others))
shape_step true page before s ss area others e h k p q = area_after page before s s.rule s.strokes ss area refl refl e h k p
shape_step false page before s ss area others e h k p q = ap (λ (ms : List Member). members_text page at_start ms) (strokes_after before s.rule s.strokes (members_of ss) e) ∙ q

-- what is written for shapes after strokes
shapes_text : (page : Page) (before : List Segment) (ss : List Shape) → HaveStrokes ss → members_text page at_start (map (member Stroke) before ++ members_of ss) ≡ flat_map path_text (paths_of page (shape_runs_after before ss))
shapes_text page before [] h = all_strokes_then page before [] tt ∙ append-nil (drawn_text page at_start before) ∙ runs_text page before
shapes_text page before (s ∷ ss) h =
    shape_step (is_some s.rule) page before s ss (shape_runs_after [] ss) (shape_runs_after (before ++ s.strokes) ss) refl h.0 h.1 (shapes_text page [] ss h.1) (shapes_text page (before ++ s.strokes) ss h.1)

-- all that is written for some strokes of a sheet
pub all_steps : (page : Page) (pens : PenSet) (areas : Areas) (base at end : ℕ) (strokes : List Segment)
    → steps_text page pens (roles_at areas (base + at)) at_start (between strokes at end) ≡ paths_text page pens (shapes_between strokes (sheet_areas base (areas_in areas)) at end)
all_steps page pens areas base at end strokes =
    let roles = roles_at areas (base + at) in
    let all = shapes_between strokes (sheet_areas base (areas_in areas)) at end in
    only_drawn page pens roles at_start (between strokes at end)
    ∙ ap (λ (ms : List Member). members_text page at_start ms) (members_are pens areas base at end strokes)
    ∙ shapes_text page [] (drawn_shapes pens all) (drawn_have pens all)

-- of no strokes nothing is written
nil_of : (ss : List Segment) → length ss ≡ 0 → ss ≡ []
nil_of [] h = refl
nil_of (s ∷ ss) h = absurd (omega (arith, h))

pub no_steps : (page : Page) (pens : PenSet) (areas : Areas) (base at end : ℕ) (strokes : List Segment) → length (between strokes at end) ≡ 0
    → [] ≡ paths_text page pens (shapes_between strokes (sheet_areas base (areas_in areas)) at end)
no_steps page pens areas base at end strokes h =
    ap (λ (ss : List Segment). steps_text page pens (roles_at areas (base + at)) at_start ss) (sym (nil_of (between strokes at end) h))
    ∙ all_steps page pens areas base at end strokes

more_step : (inside drawn : Bool) (r : Roles) (o : Option Area) → (cond inside (record r { before = r.before + 1 }) (after_first drawn r o)).before ≡ r.before + 1
more_step true drawn r o = refl
more_step false drawn r None = refl
more_step false drawn r (Some a) = refl

-- each stroke counts
pub one_more : (pens : PenSet) (r : Roles) (s : Segment) → (roles_after pens r s).before ≡ r.before + 1
one_more pens r s = more_step (nat_lt r.before r.end) (is_drawn pens s) r (beginning_at r.before (areas_in r.areas))

-- the next item of those that are left
pub next_item : {X : Type 0} (xs : List X) (i : ℕ) (x : X) → i < length xs → x ≡ get_or xs i x → drop i xs ≡ x ∷ drop (i + 1) xs
next_item {X} xs i x lt is = drop_more xs i x lt ∙ ap (λ (y : X). y ∷ drop (i + 1) xs) (sym is)

-- what is written for the next stroke, and for those after it
pub next_text : (page : Page) (pens : PenSet) (roles : Roles) (r : Runs) (ss : List Segment) (i : ℕ) (s : Segment) → i < length ss → s ≡ get_or ss i s
    → steps_text page pens roles r (drop i ss) ≡ step_text page pens roles r s ++ steps_text page pens (roles_after pens roles s) (after_step pens roles r s) (drop (i + 1) ss)
next_text page pens roles r ss i s lt is = ap (λ (zs : List Segment). steps_text page pens roles r zs) (next_item ss i s lt is)

end_at : (ends : List ℕ) (n i : ℕ) → get_or (ends ++ n ∷ []) i n ≡ get_or ends i n
end_at [] n zero = refl
end_at [] n (suc i) = refl
end_at (e ∷ ends) n zero = refl
end_at (e ∷ ends) n (suc i) = end_at ends n i

-- the next end of a sheet
pub next_end : (ends : List ℕ) (n i : ℕ) → i ≤ length ends → drop i (ends ++ n ∷ []) ≡ get_or ends i n ∷ drop (i + 1) (ends ++ n ∷ [])
next_end ends n i h =
    drop_more (ends ++ n ∷ []) i n (omega (arith, h, length-append ends (n ∷ []))) ∙ ap (λ (e : ℕ). e ∷ drop (i + 1) (ends ++ n ∷ [])) (end_at ends n i)

-- the next sheet, if it has a stroke, and if it has none
pub taken_sheet : (page : Page) (pens : PenSet) (number : ℕ) (strokes : List Segment) (areas : List Area) (at end : ℕ) (ends : List ℕ) (labels : List LabelShape) → nat_eq (length (between strokes at end)) 0 ≡ false → sheets_text page pens number (labelled_after strokes areas at (end ∷ ends) labels) ≡ sheet_text page pens (number + 1) (sheet_between strokes areas at end labels) ++ sheets_text page pens (number + 1) (labelled_after strokes areas end ends (drop (count_to end labels) labels))
taken_sheet page pens number strokes areas at end ends labels h = ap (λ (b : Bool). sheets_text page pens number (cond b (labelled_after strokes areas at ends labels) (sheet_between strokes areas at end labels ∷ labelled_after strokes areas end ends (drop (count_to end labels) labels)))) h

pub passed_sheet : (page : Page) (pens : PenSet) (number : ℕ) (strokes : List Segment) (areas : List Area) (at end : ℕ) (ends : List ℕ) (labels : List LabelShape) → nat_eq (length (between strokes at end)) 0 ≡ true → sheets_text page pens number (labelled_after strokes areas at (end ∷ ends) labels) ≡ sheets_text page pens number (labelled_after strokes areas at ends labels)
passed_sheet page pens number strokes areas at end ends labels h = ap (λ (b : Bool). sheets_text page pens number (cond b (labelled_after strokes areas at ends labels) (sheet_between strokes areas at end labels ∷ labelled_after strokes areas end ends (drop (count_to end labels) labels)))) h

pub sheet_size : (strokes : List Segment) (at end : ℕ) → length (between strokes at end) ≡ min end (length strokes) - at
sheet_size strokes at end = length-drop at (take end strokes) ∙ ap (λ (n : ℕ). n - at) (length-take end strokes)
