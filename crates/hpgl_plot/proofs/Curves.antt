-- Circles and arcs: their points have places, and their paths are followed from chord to chord.
use Rattle.std.proofs.Common.{◌≡◌, ◌∙◌, ◌≤◌, ◌<◌, ◌^◌, ◌+◌, ◌-◌, ◌/◌, ◌%◌, min, refl, sym, ap, subst, arith, ℕ, suc, true, false, Bool, List, [], ◌∷◌, map, Option, Some, None, Result, Ok, Err, ℤ, pos, ◌+ℤ◌, ◌-ℤ◌, ◌*ℤ◌, nat_abs}
use Rattle.std.specs.List.{range_with_len}
use Rattle.std.specs.Result.{IsErrAnd}
use Rattle.std.proofs.lemmas.Int.{ints, unsigned_abs-mul}
use Rattle.std.proofs.Math.Nat.{le-max_right}
use Rattle.exact.proofs.Ring.{mul-add_z, mul-sub_z}
use Rattle.exact.proofs.Fit.{product_within}
use Rattle.plot_frame.specs.Bounds.{IsNear}
use Rattle.plot_frame.specs.declared.axis.Axis.{Axis}
use Rattle.plot_frame.specs.declared.pair.AxisName.{AxisName}
use Rattle.plot_frame.specs.declared.pair.AxisName.TheVariants.{X, Y}
use Rattle.plot_frame.specs.declared.pair.Pair.{Pair}
use Rattle.plot_frame.specs.Frame.{on_axis}
use Rattle.plot_frame.proofs.Crossing.{near_small, number_small}
use Rattle.plot_frame.proofs.InBounds.{line_of_axis_in}
use Rattle.plot_arc.specs.Bounds as arc
use Rattle.plot_arc.specs.Arcs.{chord_point_of, vector, nearest, turned_x, turned_y, turn_after}
use Rattle.exact.specs.declared.spot.Spot.{Spot}
use Rattle.plot_arc.proofs.Reach.{is_reached}
use Rattle.plot_page.specs.declared.page.Page.{Page}
use Rattle.plot_settings.specs.declared.figure.Arc.{Arc}
use Rattle.plot_settings.specs.declared.figure.Circle.{Circle}
use Rattle.hpgl_plot.specs.declared.curve.Curve.{Curve}
use Rattle.hpgl_plot.specs.declared.plotter.Stop.{Stop}
use Rattle.hpgl_plot.specs.declared.plotter.Stop.TheVariants.{Memory, OffRange}
use Rattle.hpgl_plot.specs.declared.state.Frame.{Frame}
use Rattle.hpgl_plot.specs.declared.state.Position.{Position}
use Rattle.hpgl_plot.specs.declared.state.State.{State}
use Rattle.hpgl_plot.specs.Paths.{circle_curve, arc_curve, chord_count, curve_point, curve_places, path, along, position, pen_at, target}
use Rattle.hpgl_plot.specs.Bounds.{AreAxes, IsSound, IsInRange, IsSmallIn, AreSmall, IsCurve, line_in}
use Rattle.hpgl_plot.specs.Frames.{place}
use Rattle.hpgl_plot.specs.Machine.{World, travelled, Runs}
use Rattle.plot_settings.specs.Meanings.{DrawCircle, DrawArc}
use Rattle.hpgl_plot.proofs.Fed.{travelled_more, travelled_never, travelled_one}
use Rattle.hpgl_plot.specs.OnPage.{margin}
use Rattle.hpgl_plot.proofs.OnAxes.{axis_is, margin_near}

small_along : (n : AxisName) (page : Page) (axes : Pair Axis) (f : Frame) (u t : ℤ) → AreAxes page f axes → IsNear (on_axis n axes) u → nat_abs t ≤ 2 ^ 55
    → IsSmallIn page f (u +ℤ t)
small_along n page axes f u t h k l =
    near_small n f.points f.scaling (λ m. margin m page) u t h.points h.scaling (margin_near page)
    (subst (λ (a : Axis). IsNear a u) (axis_is n page f axes h) k) l

small_right : (page : Page) (range : ℕ) (axes : Pair Axis) (s : State) (t : ℤ) → IsSound page range axes s → nat_abs t ≤ 2 ^ 55
    → IsSmallIn page s.frame (s.coordinates.x +ℤ t)
small_right page range axes s t h k = small_along X page axes s.frame s.coordinates.x t h.framed h.x_near k

small_above : (page : Page) (range : ℕ) (axes : Pair Axis) (s : State) (t : ℤ) → IsSound page range axes s → nat_abs t ≤ 2 ^ 55
    → IsSmallIn page s.frame (s.coordinates.y +ℤ t)
small_above page range axes s t h k = small_along Y page axes s.frame s.coordinates.y t h.framed h.y_near k

small_number : (page : Page) (range : ℕ) (axes : Pair Axis) (s : State) (t : ℤ) → IsSound page range axes s → nat_abs t ≤ 2 ^ 55 → IsSmallIn page s.frame t
small_number page range axes s t h k =
    let f = s.frame in
    number_small (line_in page f) t (λ n. line_of_axis_in n f.points f.scaling (margin n page) h.framed.points h.framed.scaling (margin_near page n)) k

plus_0 : (u : ℤ) → u +ℤ pos 0 ≡ u
plus_0 u = omega (arith, ints)

-- where the pen is
pub pen_small : (page : Page) (range : ℕ) (axes : Pair Axis) (s : State) → IsSound page range axes s → AreSmall page s.frame s.coordinates
pen_small page range axes s h = record {
  x_in = subst (λ (u : ℤ). IsSmallIn page s.frame u) (plus_0 s.coordinates.x) (small_right page range axes s (pos 0) h (omega arith));
  y_in = subst (λ (u : ℤ). IsSmallIn page s.frame u) (plus_0 s.coordinates.y) (small_above page range axes s (pos 0) h (omega arith));
}

-- on the right of the pen
pub right_small : (page : Page) (range : ℕ) (axes : Pair Axis) (s : State) (n : ℤ) → IsSound page range axes s → nat_abs n ≤ 2 ^ 55
    → AreSmall page s.frame (record { x = s.coordinates.x +ℤ n; y = s.coordinates.y })
right_small page range axes s n h k = record { x_in = small_right page range axes s n h k; y_in = (pen_small page range axes s h).y_in }

-- where a move may end
pub target_small : (page : Page) (range : ℕ) (axes : Pair Axis) (s : State) (relative : Bool) (x y : ℤ) → IsSound page range axes s → nat_abs x ≤ 2 ^ 55
    → nat_abs y ≤ 2 ^ 55 → AreSmall page s.frame (target relative s.coordinates x y)
target_small page range axes s true x y h k l = record { x_in = small_right page range axes s x h k; y_in = small_above page range axes s y h l }
target_small page range axes s false x y h k l = record { x_in = small_number page range axes s x h k; y_in = small_number page range axes s y h l }

-- such coordinates are near enough for a turn
pub small_spot : (page : Page) (f : Frame) (u : Spot) → AreSmall page f u → arc.IsNear u
small_spot page f u h =
    let x = h.x_in.size in
    let y = h.y_in.size in
    record { x_in = omega arith; y_in = omega arith }

product_part : (s a b : ℤ) → nat_abs (s *ℤ a) ≤ 2 ^ 115 → nat_abs (s *ℤ b) ≤ 2 ^ 115 → nat_abs (s *ℤ (a -ℤ b)) ≤ 2 ^ 116
product_part s a b h k = let e = mul-sub_z s a b in omega (arith, ints)

-- a number that is no greater than two others together
shared : (s c n x y : ℤ) → nat_abs (s *ℤ c) ≤ 2 ^ 115 → nat_abs (s *ℤ x) ≤ 2 ^ 116 → nat_abs (s *ℤ y) ≤ 2 ^ 116
    → nat_abs n ≤ nat_abs x + nat_abs y → nat_abs (s *ℤ (c +ℤ n)) ≤ 2 ^ 118
shared s c n x y h k l m =
    let e = mul-add_z s c n in
    let p = unsigned_abs-mul s x in
    let q = unsigned_abs-mul s y in
    let r = product_within s n (nat_abs s) (nat_abs x + nat_abs y) (omega arith) m in
    omega (arith, ints)

-- a chord's end is small enough for a place on each axis: it is no farther from the centre than the first point's way
-- in x and in y together
reached_along : (n : AxisName) (page : Page) (f : Frame) (c : Curve) (centre d : ℤ) → IsCurve page f c → IsSmallIn page f centre
    → nat_abs d ≤ nat_abs (c.from.x -ℤ c.centre.x) + nat_abs (c.from.y -ℤ c.centre.y)
    → nat_abs ((line_in page f n).slope *ℤ (centre +ℤ d)) ≤ 2 ^ 118
reached_along n page f c centre d i j k =
    let s = (line_in page f n).slope in
    let a = product_part s c.from.x c.centre.x (i.from.x_in.product_in n) (i.centre.x_in.product_in n) in
    let b = product_part s c.from.y c.centre.y (i.from.y_in.product_in n) (i.centre.y_in.product_in n) in
    shared s centre d (c.from.x -ℤ c.centre.x) (c.from.y -ℤ c.centre.y) (j.product_in n) a b k

-- a first point that is turned by any angle
pub turned_right : (page : Page) (f : Frame) (axes : Pair Axis) (c : Curve) (t : ℤ) → AreAxes page f axes → IsCurve page f c
    → nat_abs (axes.x.slope *ℤ (chord_point_of c.centre c.from t).x) ≤ 2 ^ 118
turned_right page f axes c t h i =
    rw h.x_is (reached_along X page f c c.centre.x (nearest (turned_x (vector c.centre c.from) t)) i i.centre.x_in (is_reached c.centre c.from t).x)

pub turned_above : (page : Page) (f : Frame) (axes : Pair Axis) (c : Curve) (t : ℤ) → AreAxes page f axes → IsCurve page f c
    → nat_abs (axes.y.slope *ℤ (chord_point_of c.centre c.from t).y) ≤ 2 ^ 118
turned_above page f axes c t h i =
    rw h.y_is (reached_along Y page f c c.centre.y (nearest (turned_y (vector c.centre c.from) t)) i i.centre.y_in (is_reached c.centre c.from t).y)

pub point_right : (page : Page) (f : Frame) (axes : Pair Axis) (c : Curve) (k : ℕ) → AreAxes page f axes → IsCurve page f c
    → nat_abs (axes.x.slope *ℤ (curve_point c k).x) ≤ 2 ^ 118
unfolding curve_point
point_right page f axes c k h i = turned_right page f axes c (turn_after c.chord c.sweep k) h i

pub point_above : (page : Page) (f : Frame) (axes : Pair Axis) (c : Curve) (k : ℕ) → AreAxes page f axes → IsCurve page f c
    → nat_abs (axes.y.slope *ℤ (curve_point c k).y) ≤ 2 ^ 118
unfolding curve_point
point_above page f axes c k h i = turned_above page f axes c (turn_after c.chord c.sweep k) h i

-- and so has the first point
pub first_right : (page : Page) (f : Frame) (axes : Pair Axis) (c : Curve) → AreAxes page f axes → IsCurve page f c
    → nat_abs (axes.x.slope *ℤ c.from.x) ≤ 2 ^ 118
first_right page f axes c h i = let k = i.from.x_in.product_in X in rw h.x_is (omega arith)

pub first_above : (page : Page) (f : Frame) (axes : Pair Axis) (c : Curve) → AreAxes page f axes → IsCurve page f c
    → nat_abs (axes.y.slope *ℤ c.from.y) ≤ 2 ^ 118
first_above page f axes c h i = let k = i.from.y_in.product_in Y in rw h.y_is (omega arith)

-- the places of a number of chords' ends
abbrev pub places_from : Page → Frame → Curve → ℕ → ℕ → List Spot
places_from page f c first n = map (λ (k : ℕ). place page f (curve_point c k)) (range_with_len first n)

places_next : (page : Page) (f : Frame) (c : Curve) (k n : ℕ) → k < n
    → places_from page f c (k + 1) (n - k) ≡ place page f (curve_point c (k + 1)) ∷ places_from page f c (k + 1 + 1) (n - (k + 1))
places_next page f c k n h = let e : n - k ≡ suc (n - (k + 1)) = omega arith in rw e refl

-- a curve has a chord
pub has_chord : (c : Curve) → 0 < chord_count c
has_chord c = let h = le-max_right (nat_abs c.sweep / c.chord + min 1 (nat_abs c.sweep % c.chord)) 1 in omega arith

-- what is left of a curve's path, from a place on, comes to what all of it comes to
abbrev pub Left : Page → Frame → Curve → Bool → World → Spot → ℕ → World → Spot → Type 0
Left page f c draws v from k w start = travelled v draws (from ∷ places_from page f c (k + 1) (chord_count c - k)) ≡ travelled w draws
    (start ∷ curve_places page f c)

-- after one chord more
pub one_chord : (page : Page) (f : Frame) (c : Curve) (draws : Bool) (v u w : World) (from q start : Spot) (k : ℕ) → k < chord_count c
    → q ≡ place page f (curve_point c (k + 1))
    → Left page f c draws v from k w start → travelled v draws (from ∷ (q ∷ [])) ≡ Some u → Left page f c draws u q (k + 1) w start
one_chord page f c draws v u w from q start k h e l t =
    let n = places_next page f c k (chord_count c) h in
    let rest = places_from page f c (k + 1 + 1) (chord_count c - (k + 1)) in
    sym (travelled_more v u draws from q rest t) ∙ ap (λ (x : Spot). travelled v draws (from ∷ (x ∷ rest))) e ∙ ap
    (λ (ps : List Spot). travelled v draws (from ∷ ps)) (sym n) ∙ l

-- at a chord that leaves the range
pub no_chord : (page : Page) (f : Frame) (c : Curve) (draws : Bool) (v w : World) (from q start : Spot) (k : ℕ) → k < chord_count c
    → q ≡ place page f (curve_point c (k + 1))
    → Left page f c draws v from k w start → travelled v draws (from ∷ (q ∷ [])) ≡ None → travelled w draws (start ∷ curve_places page f c) ≡ None
no_chord page f c draws v w from q start k h e l t =
    let n = places_next page f c k (chord_count c) h in
    let rest = places_from page f c (k + 1 + 1) (chord_count c - (k + 1)) in
    sym l ∙ ap (λ (ps : List Spot). travelled v draws (from ∷ ps)) n ∙ ap (λ (x : Spot). travelled v draws (from ∷ (x ∷ rest)))
    (sym e) ∙ travelled_never v draws from q rest t

-- past the last chord
pub all_chords : (page : Page) (f : Frame) (c : Curve) (draws : Bool) (v w : World) (from start : Spot) (k : ℕ) → k ≡ chord_count c
    → IsInRange v.range from → Left page f c draws v from k w start
    → travelled w draws (start ∷ curve_places page f c) ≡ Some v
all_chords page f c draws v w from start k e r l =
    let z : chord_count c - k ≡ 0 = omega arith in
    sym l ∙ ap (λ (n : ℕ). travelled v draws (from ∷ places_from page f c (k + 1) n)) z ∙ travelled_one v draws from r

-- what stops early stops all of it, where the results are of two types
pub stopped_by : (T : Type 0) {U : Type 0} (o p : Option World) (u v : World) (e : Stop) (r : Result U Stop) → (o ≡ None → p ≡ None)
    → Runs {U = T} o u (Err e) → IsErrAnd r (λ f. f ≡ e) → Runs p v r
stopped_by T o p u v e (Ok x) n h i = absurd i
stopped_by T o p u v Memory (Err f) n h i = rw i tt
stopped_by T o p u v OffRange (Err f) n h i = rw i (n h)

-- the path of a circle, and of an arc
pub circle_path_is : (page : Page) (s : State) (c : Circle) (curve : Curve) (q : Spot) → curve ≡ circle_curve s.coordinates c
    → q ≡ place page s.frame curve.from
    → path page s (DrawCircle c) ≡ along (q ∷ curve_places page s.frame curve) true (position s)
circle_path_is page s c curve q e h = rw (h, e) refl

pub arc_path_is : (page : Page) (s : State) (relative : Bool) (a : Arc) (curve : Curve) (end : Position)
    → curve ≡ arc_curve s.coordinates (target relative s.coordinates a.x a.y) a
    → end ≡ pen_at page s.frame (curve_point curve (chord_count curve))
    → path page s (DrawArc relative a) ≡ along (s.place ∷ curve_places page s.frame curve) s.is_down end
arc_path_is page s relative a curve end e h = rw (h, e) refl

pub placed : (page : Page) (f : Frame) (u : Spot) (end : Position) → end ≡ pen_at page f u → end.place ≡ place page f end.coordinates
placed page f u end e = rw e refl
