-- Moves, curves and wedges: what follows for them from the lines along their places.
use Rattle.std.proofs.Common.{◌≡◌, ◌∙◌, ◌<◌, ◌≤◌, ◌+◌, ◌-◌, ℕ, ℤ, Bool, true, false, List, [], ◌∷◌, ◌++◌, length, drop, get_or, take, take_all, map, append_assoc, refl, sym, ap, ap₂, subst, inl, inr, arith, Option, Some, None, Result}
use Rattle.std.specs.Prelude.{if◌then◌else◌}
use Rattle.std.specs.List.{range_with_len}
use Rattle.std.proofs.lemmas.Bool.{and_parts, cases_Bool}
use Rattle.std.proofs.lemmas.List.FromFn.{get_or-map-range_with_len, length-map-range_with_len, map-range_with_len_more}
use Rattle.std.proofs.lemmas.Option.{none-some, same_Some}
use Rattle.exact.specs.declared.spot.Spot.{Spot}
use Rattle.plot_page.specs.declared.page.Page.{Page}
use Rattle.plot_settings.specs.Meanings.{DrawArc, DrawCircle, Go, Move, Step}
use Rattle.plot_settings.specs.declared.figure.Arc.{Arc}
use Rattle.plot_settings.specs.declared.figure.Circle.{Circle}
use Rattle.hpgl_plot.specs.declared.plotter.Stop.{Stop}
use Rattle.hpgl_plot.specs.declared.state.Position.{Position}
use Rattle.hpgl_plot.specs.declared.state.State.{State}
use Rattle.hpgl_plot.specs.Bounds.{IsInRange}
use Rattle.hpgl_plot.specs.Frames.{place}
use Rattle.hpgl_plot.specs.Paths.{Path, along, arc_curve, chord_count, curve_places, curve_point, pen_at, target}
use Rattle.hpgl_plot.specs.Strokes.{are_in_range, is_in_range}
use Rattle.hpgl_plot.proofs.Curves.{has_chord, placed}
use Rattle.hpgl_plot.specs.Machine as core
use Rattle.hpgl_plot.proofs.Fed.{within}
use Rattle.curves.specs.Arcs.{arc_places}
use Rattle.curves.specs.Beziers.{bezier_places}
use Rattle.full_settings.specs.declared.points.ArcPoints.{ArcPoints}
use Rattle.full_settings.specs.declared.points.CurvePoints.{CurvePoints}
use Rattle.full_settings.specs.declared.polygon_setting.Wedge.{Wedge}
use Rattle.full_plot.specs.Curves.{arc_step, curve_step, gone_over, if_in_range, lined, lined_in, curve_pen, traced_over}
use Rattle.full_plot.specs.Lines.{drawn_along, with_state, ended_in, first_line, line_step, state_after, step_path}
use Rattle.full_plot.specs.Machine.{Runs, core_step, marked}
use Rattle.full_plot.specs.Polygons.{edge_step, figure_in, lined_by, only_figure, reached, trace_step, with_buffer}
use Rattle.polygons.specs.Buffers.{Contents, begun_at, closed}
use Rattle.full_plot.specs.Texts.{at_margin}
use Rattle.full_plot.specs.Wedges.{wedge_edged, wedge_place, wedge_places}
use Rattle.full_plot.specs.Worlds.{FullWorld, full_followed}
use Rattle.full_plot.proofs.Changes.{In, in_if, made_if}
use Rattle.full_plot.proofs.LinesAlong.{Keeps, along_keeps, not_passed, places_in_range, still_by, traced_by}

-- places that are reached
pub reached_keeps : (w v : FullWorld) (places : List Spot) → reached w places ≡ Some v → Keeps w v
reached_keeps w v places k =
    subst (In (Keeps w)) k (in_if (Keeps w) (are_in_range w.core.range (w.core.state.place ∷ places)) _ (record { page_is = refl; range_is = refl; state_is = refl }))

pub reached_in : (w v : FullWorld) (places : List Spot) → reached w places ≡ Some v → are_in_range w.core.range (w.core.state.place ∷ places) ≡ true
reached_in w v places k = made_if (are_in_range w.core.range (w.core.state.place ∷ places)) _ v k

pub reached_out : (w : FullWorld) (places : List Spot) → core.travelled w.core false (w.core.state.place ∷ places) ≡ None → reached w places ≡ None
reached_out w places k = rw (not_passed w.core false (w.core.state.place ∷ places) k) refl

-- the path of a move
pub move_path_is : (w : FullWorld) (relative : Bool) (x y : ℤ) (end : Position)
    → end ≡ pen_at w.core.page w.core.state.frame (target relative w.core.state.coordinates x y)
    → step_path w (Go relative x y) ≡ along (w.core.state.place ∷ (end.place ∷ [])) w.core.state.is_down end
move_path_is w relative x y end e = rw e refl

-- the pen comes to its end
pub end_is_placed : (w u : FullWorld) (end : Position) (q : Spot) → end ≡ pen_at w.core.page w.core.state.frame q → Keeps w u
    → end.place ≡ place u.core.page u.core.state.frame end.coordinates
end_is_placed w u end q e k = rw (k.page_is, k.state_is) (placed w.core.page w.core.state.frame q end e)

pub ended_at : (w u : FullWorld) (c : core.World) (t : Step) (draws : Bool) (places : List Spot) (end : Position) (o p : Option FullWorld)
    → p ≡ ended_in (state_after w t) o → o ≡ Some u → step_path w t ≡ along places draws end
    → state_after w t ≡ core.moved w.core.state (step_path w t).ends → Keeps w u
    → core.ends_in (core.moved u.core.state end) (Some u.core) ≡ Some c → p ≡ Some (record u { core = c })
ended_at w u c t draws places end o p p_is o_is path_is after_is k arrives =
    let s : state_after w t ≡ core.moved u.core.state end =
    after_is ∙ ap (λ (q : Path). core.moved w.core.state q.ends) path_is ∙ ap (λ (x : State). core.moved x end) (sym k.state_is) in
    p_is ∙ ap (λ (x : Option FullWorld). ended_in (state_after w t) x) o_is
    ∙ ap (λ (x : State). Some (with_state u x)) s
    ∙ ap (λ (x : core.World). Some (record u { core = x })) (same_Some _ _ arrives)

-- a move and an arc in polygon mode
traced_as : (b : Bool) (w : FullWorld) (s : State) (buffer : Contents)
    → (if b then Some (record (with_state w s) { buffer = buffer }) else None) ≡ ended_in s (if b then Some (record w { buffer = buffer }) else None)
traced_as true w s buffer = refl
traced_as false w s buffer = refl

pub move_traced : (w : FullWorld) (relative : Bool) (x y : ℤ) (end : Position)
    → step_path w (Go relative x y) ≡ along (w.core.state.place ∷ (end.place ∷ [])) w.core.state.is_down end
    → trace_step w (Go relative x y) ≡ ended_in (state_after w (Go relative x y)) (reached w (end.place ∷ []))
move_traced w relative x y end e =
    traced_by w (Go relative x y) w.core.state.is_down (w.core.state.place ∷ (end.place ∷ [])) end e
    ∙ traced_as (are_in_range w.core.range (w.core.state.place ∷ (end.place ∷ []))) w (state_after w (Go relative x y)) _

pub traced_keeps : (w v : FullWorld) (places : List Spot) → traced_over w places ≡ Some v → Keeps w v
traced_keeps w v places k =
    let kept = reached_keeps (record w { buffer = begun_at w.buffer w.core.state.place }) v places k in
    record { page_is = kept.page_is; range_is = kept.range_is; state_is = kept.state_is }

pub traced_in : (w v : FullWorld) (places : List Spot) → traced_over w places ≡ Some v → are_in_range w.core.range (w.core.state.place ∷ places) ≡ true
traced_in w v places k = reached_in (record w { buffer = begun_at w.buffer w.core.state.place }) v places k

pub arc_traced : (w : FullWorld) (relative : Bool) (a : Arc) (places : List Spot) (end : Position)
    → step_path w (DrawArc relative a) ≡ along (w.core.state.place ∷ places) w.core.state.is_down end
    → trace_step w (DrawArc relative a) ≡ ended_in (state_after w (DrawArc relative a)) (traced_over w places)
arc_traced w relative a places end e =
    traced_by w (DrawArc relative a) w.core.state.is_down (w.core.state.place ∷ places) end e
    ∙ traced_as (are_in_range w.core.range (w.core.state.place ∷ places)) w (state_after w (DrawArc relative a)) _

-- the end of an arc is the last of its places
last_in_range : (range : ℕ) (f : ℕ → Spot) (n : ℕ) → 0 < n → are_in_range range (map f (range_with_len 1 n)) ≡ true → IsInRange range (f n)
last_in_range range f n h k =
    let len : length (map f (range_with_len 1 n)) ≡ n = length-map-range_with_len f 1 n in
    subst (λ (q : Spot). IsInRange range q) (get_or-map-range_with_len f 1 n (n - 1) n (f n) (omega arith) (omega arith))
    (places_in_range range (map f (range_with_len 1 n)) k (n - 1) (f n) (omega (arith, len)))

pub arc_end_in_range : (w : FullWorld) (relative : Bool) (a : Arc) (places : List Spot) (end : Position)
    → step_path w (DrawArc relative a) ≡ along (w.core.state.place ∷ places) w.core.state.is_down end
    → are_in_range w.core.range (w.core.state.place ∷ places) ≡ true → IsInRange w.core.range end.place
arc_end_in_range w relative a places end e k =
    let s = w.core.state in
    let curve = arc_curve s.coordinates (target relative s.coordinates a.x a.y) a in
    let chords = curve_places w.core.page s.frame curve in
    let all : are_in_range w.core.range (s.place ∷ chords) ≡ true = ap (λ (q : Path). are_in_range w.core.range (first_line q.lines)) e ∙ k in
    subst (λ (q : Path). IsInRange w.core.range q.ends.place) e
    (last_in_range w.core.range (λ (i : ℕ). place w.core.page s.frame (curve_point curve i)) (chord_count curve) (has_chord curve)
    (and_parts (is_in_range w.core.range s.place) (are_in_range w.core.range chords) all).1)

pub arc_end_is_placed : (w u : FullWorld) (relative : Bool) (a : Arc) (places : List Spot) (end : Position)
    → step_path w (DrawArc relative a) ≡ along (w.core.state.place ∷ places) w.core.state.is_down end → Keeps w u
    → end.place ≡ place u.core.page u.core.state.frame end.coordinates
arc_end_is_placed w u relative a places end e k =
    let s = w.core.state in
    let curve = arc_curve s.coordinates (target relative s.coordinates a.x a.y) a in
    end_is_placed w u end (curve_point curve (chord_count curve)) (sym (ap (λ (q : Path). q.ends) e)) k

-- a circle in polygon mode
pub circle_traced : (w : FullWorld) (c : Circle) (places : List Spot) (end : Position)
    → step_path w (DrawCircle c) ≡ along places true end → are_in_range w.core.range places ≡ true
    → trace_step w (DrawCircle c) ≡ Some (record w { buffer = figure_in (closed w.buffer w.core.state.is_down) places })
circle_traced w c places end e k = traced_by w (DrawCircle c) true places end e ∙ rw k refl

pub circle_out : (w : FullWorld) (c : Circle) (places : List Spot) (end : Position)
    → step_path w (DrawCircle c) ≡ along places true end → core.travelled w.core false places ≡ None → trace_step w (DrawCircle c) ≡ None
circle_out w c places end e k =
    traced_by w (DrawCircle c) true places end e ∙ rw (not_passed w.core false places k) refl

-- the edge of a rectangle
pub edge_is : (w : FullWorld) (t : Step) (places : List Spot) (end : Position) → step_path w t ≡ along places true end → state_after w t ≡ w.core.state
    → edge_step w t ≡ with_buffer (only_figure places) (drawn_along w true places)
edge_is w t places end e h =
    ap₂ (λ (qs : List Spot) (o : Option FullWorld). with_buffer (only_figure qs) o) (ap (λ (q : Path). first_line q.lines) e) (still_by w t true places end e h)

-- a move to coordinates that are relative or absolute as PA or PR said last
moved_as_gone : (on : Bool) (w : FullWorld) (x y : ℤ) → lined_by on w (Move x y) ≡ lined_by on w (Go w.core.state.is_relative x y)
unfolding line_step trace_step
moved_as_gone true w x y = refl
moved_as_gone false w x y = refl

pub move_is_go : (w : FullWorld) (x y : ℤ) → core_step w (Go w.core.state.is_relative x y) ≡ core_step w (Move x y)
move_is_go w x y =
    ap (λ (o : Option FullWorld). full_followed o (λ (v : FullWorld). marked (at_margin v))) (sym (moved_as_gone w.context.in_polygon w x y))

-- curves leave the page and the state as they are
lined_keeps_in : (on : Bool) (w v : FullWorld) (places : List Spot) → lined_in on w places ≡ Some v → Keeps w v
lined_keeps_in true w v places k = traced_keeps w v places k
lined_keeps_in false w v places k = along_keeps w v w.core.state.is_down (w.core.state.place ∷ places) k

pub lined_keeps : (w v : FullWorld) (places : List Spot) → lined w places ≡ Some v → Keeps w v
lined_keeps w v places k = lined_keeps_in w.context.in_polygon w v places k

-- a place out of range
pub out_of_range : (w : FullWorld) (q : Spot) → core.travelled w.core true (q ∷ []) ≡ None → if_in_range w.core.range (q ∷ []) (Some w) ≡ None
out_of_range w q k = elim (cases_Bool (is_in_range w.core.range q)) [
  | inl i ↦ absurd (none-some _ (sym (rw i at k)))
  | inr i ↦ rw i refl
]

-- an arc and a curve whose points are in range
if_both : {o : Option FullWorld} (range : ℕ) (a b : Spot) → IsInRange range a → IsInRange range b → if_in_range range (a ∷ (b ∷ [])) o ≡ o
if_both range a b i j = rw (within range a i, within range b j) refl

if_all : {o : Option FullWorld} (range : ℕ) (a b c : Spot) → IsInRange range a → IsInRange range b → IsInRange range c → if_in_range range (a ∷ (b ∷ (c ∷ []))) o ≡ o
if_all range a b c i j k = rw (within range a i, within range b j, within range c k) refl

pub arc_runs : {U : Type 0} (w v : FullWorld) (relative : Bool) (a : ArcPoints) (t e : Position) (places : List Spot) (r : Result U Stop)
    → t ≡ curve_pen w relative a.through → e ≡ curve_pen w relative a.to → IsInRange w.core.range t.place → IsInRange w.core.range e.place
    → places ≡ arc_places w.core.state.place t.place e.place → Runs (gone_over w places e) v r → Runs (arc_step w relative a) v r
arc_runs w v relative a t e places r t_is e_is i j p h =
    let arc = λ (x y : Position). if_in_range w.core.range (x.place ∷ (y.place ∷ [])) (gone_over w (arc_places w.core.state.place x.place y.place) y) in
    let same : gone_over w places e ≡ arc t e = ap (λ (ps : List Spot). gone_over w ps e) p ∙ sym (if_both w.core.range t.place e.place i j) in
    let all : arc t e ≡ arc_step w relative a = ap (λ (x : Position). arc x e) t_is ∙ ap (λ (y : Position). arc (curve_pen w relative a.through) y) e_is in
    subst (λ (o : Option FullWorld). Runs o v r) (same ∙ all) h

pub curve_runs : {U : Type 0} (w v : FullWorld) (relative : Bool) (c : CurvePoints) (f s e : Position) (places : List Spot) (r : Result U Stop)
    → f ≡ curve_pen w relative c.first → s ≡ curve_pen w relative c.second → e ≡ curve_pen w relative c.to
    → IsInRange w.core.range f.place → IsInRange w.core.range s.place → IsInRange w.core.range e.place
    → places ≡ bezier_places w.core.state.place f.place s.place e.place → Runs (gone_over w places e) v r → Runs (curve_step w relative c) v r
curve_runs w v relative c f s e places r f_is s_is e_is i j k p h =
    let curve = λ (x y z : Position). if_in_range w.core.range (x.place ∷ (y.place ∷ (z.place ∷ []))) (gone_over w (bezier_places w.core.state.place x.place y.place z.place) z) in
    let first = curve_pen w relative c.first in
    let second = curve_pen w relative c.second in
    let same : gone_over w places e ≡ curve f s e = ap (λ (ps : List Spot). gone_over w ps e) p ∙ sym (if_all w.core.range f.place s.place e.place i j k) in
    let all : curve f s e ≡ curve_step w relative c =
    ap (λ (x : Position). curve x s e) f_is ∙ ap (λ (y : Position). curve first y e) s_is ∙ ap (λ (z : Position). curve first second z) e_is in
    subst (λ (o : Option FullWorld). Runs o v r) (same ∙ all) h

-- one more place of a wedge
pub one_round : (page : Page) (s : State) (w : Wedge) (k : ℕ) (before items : List Spot)
    → items ≡ before ++ map (wedge_place page s w) (range_with_len 0 k)
    → items ++ (wedge_place page s w k ∷ []) ≡ before ++ map (wedge_place page s w) (range_with_len 0 (k + 1))
one_round page s w k before items e =
    ap (λ (is : List Spot). is ++ (wedge_place page s w k ∷ [])) e
    ∙ append_assoc before (map (wedge_place page s w) (range_with_len 0 k)) (wedge_place page s w k ∷ [])
    ∙ ap (λ (is : List Spot). before ++ is) (sym (map-range_with_len_more (wedge_place page s w) 0 k k (omega arith)))

-- the first place, and the rest
pub first_and_rest : (places : List Spot) (d : Spot) → 1 ≤ length places → (get_or places 0 d ∷ take (length places - 1) (drop 1 places)) ≡ places
first_and_rest [] d h = absurd (omega arith)
first_and_rest (q ∷ qs) d h =
    let e : length (q ∷ qs) - 1 ≡ length qs = omega arith in
    rw e (ap (λ (rest : List Spot). q ∷ rest) (take_all (length qs) qs (omega arith)))

pub wedge_is : (w : FullWorld) (wedge : Wedge) (places : List Spot) → places ≡ wedge_places w.core.page w.core.state wedge
    → with_buffer (only_figure places) (drawn_along w true places) ≡ wedge_edged w wedge
wedge_is w wedge places e = ap (λ (qs : List Spot). with_buffer (only_figure qs) (drawn_along w true qs)) e
