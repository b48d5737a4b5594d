-- A relation that holds of the changes that fills and settings make, too, and of one after another, holds of each step
-- and of steps.
use Rattle.std.proofs.Common.{◌≡◌, ◌∙◌, ap, refl, Bool, true, false, subst, sym, ℕ, ◌+◌, List, [], ◌∷◌, length, map, nat_eq, nat_lt, Option, Some, None, Ok, Err, pos, ◌&&◌}
use Rattle.std.specs.Prelude.{option_map, ⊤}
use Rattle.std.specs.List.{list_all}
use Rattle.std.proofs.lemmas.Bool.{and_parts, not-true}
use Rattle.plot_page.specs.Segments.{Segment}
use Rattle.plot_settings.specs.Meanings.{Edge, Set, Step, Write}
use Rattle.hpgl_plot.specs.declared.state.State.{State}
use Rattle.hpgl_plot.specs.Inks.{unscreened}
use Rattle.hpgl_plot.specs.Strokes.{are_in_range}
use Rattle.hpgl_plot.specs.Machine as core
use Rattle.line_types.specs.declared.run.Run.{Run}
use Rattle.polygons.specs.Fills.{spans}
use Rattle.polygons.specs.declared.lines.Lines.{Lines}
use Rattle.polygons.specs.declared.lines.Rule.{Rule}
use Rattle.polygons.specs.declared.span.Span.{Span}
use Rattle.full_settings.specs.declared.fill_setting.FillKind.{FillKind}
use Rattle.full_settings.specs.declared.fill_setting.FillKind.TheVariants.{Solid, Hatched, CrossHatched, Shaded}
use Rattle.full_settings.specs.declared.polygon_setting.Anchor.{Anchor}
use Rattle.full_settings.specs.declared.polygon_setting.Anchor.TheVariants.{PageOrigin, At}
use Rattle.full_settings.specs.declared.polygon_setting.PolygonStep.TheVariants.{Begin, Close, End}
use Rattle.full_notes.specs.Contexts.{Context}
use Rattle.hpgl_plot.specs.declared.note.NoteKind.{NoteKind}
use Rattle.raster_graphics.specs.declared.fault.Answer.{Answer}
use Rattle.raster_graphics.specs.declared.fault.Fault.TheVariants.{Memory, TooFar, TooMuch}
use Rattle.raster_graphics.specs.declared.machine.Machine.{Machine}
use Rattle.raster_graphics.specs.Machines.{obeyed, start}
use Rattle.raster_graphics.specs.Machines as machines
use Rattle.raster_requests.specs.declared.place.Language.TheVariants.{Rtl, Hpgl2}
use Rattle.raster_requests.specs.declared.place.Places.TheVariants.{Carried}
use Rattle.raster_requests.specs.declared.request.Request.{Request}
use Rattle.raster_requests.specs.declared.request.Request.TheVariants.{Enter, EndPage}
use Rattle.full_plot.specs.Fills.{buffer_filled, counted, edge_span, edges_inked, filled_by, hatched, over_lines, over_spans, rule_by, solid_filled, span_stroke, unless, with_span}
use Rattle.full_plot.specs.declared.fills.Ink.{Ink}
use Rattle.full_plot.specs.declared.fills.Ink.TheVariants.{Width, Line}
use Rattle.full_plot.specs.Commands.{Asked, Left, after_request, after_step, gathered, going_on, noted_with, obeyed_all, obeyed_from, overfull, placed_at, spot_of, then_asked, with_machine}
use Rattle.full_plot.specs.Curves.{curve_pen}
use Rattle.full_plot.specs.Inks.{fills_nothing}
use Rattle.full_plot.specs.Lines.{drawn_along, drawn_in_type, places_of}
use Rattle.full_plot.specs.Machine.{FullStep, Core, Restyle, Restart, PointsBy, Letter, Print, Place, Tick, ArcThrough, Curve, PolygonBy, EdgeBuffer, FillBuffer, AnchorBy, Rectangle, WedgeEdge, WedgeFill, UserMoveBy, UserEnd, EndSheet, Obey}
use Rattle.full_plot.specs.Machine.{anchored, core_step, full_step, points_set, rewidened, run}
use Rattle.full_plot.specs.Sheets.{sheet_ended}
use Rattle.full_plot.specs.Polygons.{edges_drawn, kept_step, only_figure}
use Rattle.full_plot.specs.Texts.{sets_margin, written}
use Rattle.full_plot.specs.Wedges.{wedge_kept, wedge_places}
use Rattle.full_plot.specs.Work.{worked}
use Rattle.full_plot.specs.Worlds.{FullWorld}
use Rattle.full_plot.proofs.Changes.{CoreChanges, In, Shifts, along_holds, arc_holds, by_map, by_map_of, by_then, core_holds, curve_holds, either, fits, in_if, is_silent, place_holds, tick_holds, user_end_holds, user_move_holds}
use Rattle.full_plot.proofs.HeldPolygons.{Follows, begun_follows, cleared, closed_follows, figured, unchanged}

-- the relation holds of strokes, if any may be made; of the end of a sheet; of another machine, and of images that are taken out of
-- it; of a solid fill out of polygon mode, if it holds of its edges; and where how items are read, the strokes, the sheets that have
-- ended, the areas and what escapes make stay as they are, no room for strokes comes back, and the buffer is one that may come after
-- the one before
pub record Changes (R : FullWorld → FullWorld → Type 0) (May : Type 0) : Type 0 where
  pub joined : (w v u : FullWorld) → R w v → R v u → R w u
  pub context_is : (w v : FullWorld) → R w v → v.context ≡ w.context
  pub drawn : (w : FullWorld) (s : State) (ss : List Segment) (r : Option Run) → May → R w (record w { core = core.with_strokes w.core s ss; run = r })
  pub aside : (w v : FullWorld) → v.context ≡ w.context → v.core.kept ≡ w.core.kept → v.ends ≡ w.ends → v.areas ≡ w.areas
      → v.graphics ≡ w.graphics → (w.core.full ≡ true → v.core.full ≡ true) → Follows w v.buffer → R w v
  pub ended : (w : FullWorld) → R w (sheet_ended w)
  pub machine : (w : FullWorld) (m : Machine) → R w (with_machine w m)
  pub gathers : (w : FullWorld) → R w (gathered w)
  pub area : (w : FullWorld) (rule : Rule) → w.context.in_polygon ≡ false → R w (edges_inked w) → R w (solid_filled rule w)

abbrev pub are_silent : Bool → List FullStep → Bool
are_silent on steps = list_all (is_silent on) steps

abbrev pub are_fit : Bool → List FullStep → Bool
are_fit on steps = list_all (fits on) steps

second_false : (a b : Bool) → b ≡ false → (a && b) ≡ false
second_false true b h = h
second_false false b h = refl

module _ {R : FullWorld → FullWorld → Type 0} {May : Type 0} (h : Changes R May) where
  of_core : CoreChanges R May
  of_core = record { joined = h.joined; context_is = h.context_is; drawn = h.drawn; quiet = λ w s q b few follows. h.aside w _ refl refl refl refl refl (λ t. t) follows }

  -- with the buffer that there is
  buffer_kept : (w v : FullWorld) → v.context ≡ w.context → v.core.kept ≡ w.core.kept → v.ends ≡ w.ends → v.areas ≡ w.areas
      → v.graphics ≡ w.graphics → (w.core.full ≡ true → v.core.full ≡ true) → v.buffer ≡ w.buffer → R w v
  buffer_kept w v c k e a g full b = h.aside w v c k e a g full (subst (Follows w) (sym b) (unchanged w))

  same : (w : FullWorld) → R w w
  same w = buffer_kept w w refl refl refl refl refl (λ t. t) refl

  -- fills
  work : (n : ℕ) (w : FullWorld) → R w (worked n w)
  work n w = either (R w) (nat_lt 4194304 (length w.core.kept + w.extra + n)) _ _ (buffer_kept w _ refl refl refl refl refl (λ t. refl) refl) (buffer_kept w _ refl refl refl refl refl (λ t. t) refl)

  in_type : (w : FullWorld) (ls : List Segment) → May → R w (drawn_in_type w ls)
  in_type w ls m = h.drawn w w.core.state _ _ m

  count : (w v : FullWorld) → R w v → R w (counted w v)
  count w v k = either (R w) (nat_eq (length v.core.kept) (length w.core.kept)) _ _ (h.joined w v (worked 1 v) k (work 1 v)) k

  span : (ink : Ink) (w : FullWorld) (p : Span) → May → R w (with_span ink w p)
  span (Width width) w p m = h.drawn w w.core.state (record (span_stroke (unscreened w.core.state) p) { width = width } ∷ []) w.run m
  span Line w p m = count w _ (in_type w (span_stroke w.core.state p ∷ []) m)

  until : (full : Bool) (w v : FullWorld) → R w v → R w (unless full w v)
  until true w v k = same w
  until false w v k = k

  spans_hold : (ink : Ink) (ps : List Span) (w : FullWorld) → May → R w (over_spans ink w ps)
  spans_hold ink [] w m = same w
  spans_hold ink (p ∷ ps) w m =
      let v : FullWorld = with_span ink w p in
      until w.core.full w (over_spans ink v ps) (h.joined w v (over_spans ink v ps) (span ink w p m) (spans_hold ink ps v m))

  lines_hold : (ink : Ink) (w : FullWorld) (rule : Rule) (lines : Lines) → May → R w (over_lines ink w rule lines)
  lines_hold ink w rule lines m = spans_hold ink (spans lines rule w.buffer.edges) w m

  solid_holds : (rule : Rule) (w : FullWorld) → May → w.context.in_polygon ≡ false → R w (solid_filled rule w)
  solid_holds rule w m off = h.area w rule off (spans_hold (Width 0) (map edge_span w.buffer.edges) w m)

  kind_holds : (kind : FillKind) (rule : Rule) (w : FullWorld) → May → w.context.in_polygon ≡ false → R w (filled_by kind rule w)
  kind_holds Solid rule w m off = solid_holds rule w m off
  kind_holds Hatched rule w m off = lines_hold Line w rule _ m
  kind_holds CrossHatched rule w m off =
      let v : FullWorld = hatched rule (pos 0) w in h.joined w v (hatched rule (pos 90000) v) (lines_hold Line w rule _ m) (lines_hold Line v rule _ m)
  kind_holds Shaded rule w m off =
      either (R w) (nat_eq w.filling.fill.level 0) _ _ (same w)
      (either (R w) (nat_eq w.filling.fill.level 100000000) _ _ (solid_holds rule w m off) (lines_hold (Width 224) w rule _ m))

  still_off : (w v : FullWorld) → R w v → w.context.in_polygon ≡ false → v.context.in_polygon ≡ false
  still_off w v k off = ap (λ (c : Context). c.in_polygon) (h.context_is w v k) ∙ off

  fill_holds : (by_winding : Bool) (w : FullWorld) → May → w.context.in_polygon ≡ false → R w (buffer_filled by_winding w)
  fill_holds by_winding w m off =
      let v : FullWorld = worked w.buffer.places w in
      let k : R w v = work w.buffer.places w in
      either (R w) (fills_nothing v.filling.fill.kind v.core.state) _ _ k
      (h.joined w v (filled_by v.filling.fill.kind (rule_by by_winding) v) k
      (kind_holds v.filling.fill.kind (rule_by by_winding) v m (still_off w v k off)))

  -- a label, after which sets may be others
  shifts : (t : Step) → Shifts of_core t
  shifts (Write text) = λ w. buffer_kept w _ refl refl refl refl refl (λ t. t) refl
  shifts t = tt

  anchor_holds : (w : FullWorld) (a : Anchor) → In (R w) (anchored w a)
  anchor_holds w PageOrigin = buffer_kept w _ refl refl refl refl refl (λ t. t) refl
  anchor_holds w (At p) = in_if (R w) (are_in_range w.core.range ((curve_pen w false p).place ∷ [])) _ (buffer_kept w _ refl refl refl refl refl (λ t. t) refl)

  -- requests
  asked_besides : (request : Request) (w : FullWorld) → In (R w) (then_asked request w)
  asked_besides (Enter Rtl Carried) w =
      in_if (R w) (are_in_range w.core.range (w.core.state.place ∷ [])) _ (h.machine w (placed_at w.core.state.place w.graphics.machine))
  asked_besides (Enter Hpgl2 Carried) w =
      in_if (R w) (are_in_range w.core.range (spot_of w.graphics.machine.place ∷ [])) _ (buffer_kept w _ refl refl refl refl refl (λ t. t) refl)
  asked_besides EndPage w = h.ended w
  asked_besides request w = same w

  -- what is left of a plotter
  abbrev InLeft : {A : Type 0} → (FullWorld → Type 0) → Option (FullWorld × A) → Type 0
  InLeft P None = ⊤
  InLeft P (Some left) = P left.0

  did_with : (P : FullWorld → Type 0) (did : Answer) (o : Option FullWorld) → In P o
      → InLeft P (option_map (λ (v : FullWorld). (v, Some did)) o)
  did_with P did None k = tt
  did_with P did (Some v) k = k

  past_in : (w v : FullWorld) (o : Option FullWorld) → R w v → In (R v) o → In (R w) o
  past_in w v None k l = tt
  past_in w v (Some u) k l = h.joined w v u k l

  step_obeyed : (request : Request) (w : FullWorld) (s : machines.Step) → InLeft (R w) (after_step request w s)
  step_obeyed request w (Ok (m, did)) =
      let v : FullWorld = gathered (with_machine w m) in
      did_with (R w) did (then_asked request v)
      (past_in w v (then_asked request v) (h.joined w (with_machine w m) v (h.machine w m) (h.gathers (with_machine w m))) (asked_besides request v))
  step_obeyed request w (Err TooFar) = tt
  step_obeyed request w (Err TooMuch) =
      let v : FullWorld = record w { core = record w.core { full = true } } in
      h.joined w v (overfull w) (buffer_kept w v refl refl refl refl refl (λ t. refl) refl) (h.machine v start)
  step_obeyed request w (Err Memory) = tt

  request_holds : (asked : Asked) (w : FullWorld) → InLeft (R w) (after_request asked w)
  unfolding after_request
  request_holds asked w = step_obeyed asked.0 w (obeyed asked.0 asked.1 w.graphics.machine)

  left_past : (w v : FullWorld) (left : Left) → R w v → InLeft (R v) left → InLeft (R w) left
  left_past w v None k l = tt
  left_past w v (Some left) k l = h.joined w v left.0 k l

  went_on : (w : FullWorld) (noted : Option NoteKind) (go : Answer → FullWorld → Left) (o : Option (FullWorld × Option Answer)) → InLeft (R w) o
      → ((did : Answer) (v : FullWorld) → InLeft (R v) (go did v)) → InLeft (R w) (going_on noted go o)
  went_on w noted go None k l = tt
  went_on w noted go (Some (v, None)) k l = k
  went_on w noted go (Some (v, Some did)) k l = left_past w v (go did v) k (l did v)

  all_obeyed : (asked : List Asked) (noted : Option NoteKind) (w : FullWorld) → InLeft (R w) (obeyed_from noted asked w)
  all_obeyed [] noted w = same w
  all_obeyed (one ∷ more) noted w =
      went_on w noted (λ (did : Answer) (v : FullWorld). obeyed_from (noted_with noted did) more v) (after_request one w) (request_holds one w)
      (λ (did : Answer) (v : FullWorld). all_obeyed more (noted_with noted did) v)

  of_left : (P : FullWorld → Type 0) (left : Left) → InLeft P left → In P (option_map (λ (l : FullWorld × Option NoteKind). l.0) left)
  of_left P None k = tt
  of_left P (Some left) k = k

  obey_holds : (asked : List Asked) (w : FullWorld) → In (R w) (obeyed_all asked w)
  obey_holds asked w = of_left (R w) (obeyed_from None asked w) (all_obeyed asked None w)

  pub step_holds : (w : FullWorld) (s : FullStep) → (is_silent w.context.in_polygon s ≡ false → May) → fits w.context.in_polygon s ≡ true
      → In (R w) (full_step w s)
  step_holds w (Core t) m fit = core_holds of_core w t m (shifts t)
  step_holds w (PointsBy p) m fit =
      by_map of_core w (core_step w (Set (points_set w p))) rewidened (core_holds of_core w (Set (points_set w p)) m tt)
      (λ (v : FullWorld). buffer_kept v _ refl refl refl refl refl (λ t. t) refl)
  step_holds w Restyle m fit = h.aside w _ refl refl refl refl refl (λ t. t) (cleared w)
  step_holds w Restart m fit = h.aside w _ refl refl refl refl refl (λ t. t) (cleared w)
  step_holds w (Letter s) m fit =
      either (R w) (sets_margin s) _ _ (buffer_kept w _ refl refl refl refl refl (λ t. t) refl) (buffer_kept w _ refl refl refl refl refl (λ t. t) refl)
  step_holds w Print m fit =
      by_map of_core w (written w w.writing.text) (worked (length w.writing.text))
      (core_holds of_core w (Write w.writing.text) m (shifts (Write w.writing.text))) (work (length w.writing.text))
  step_holds w (Place n) m fit = place_holds of_core w n (m refl)
  step_holds w (Tick is_upright) m fit = tick_holds of_core w is_upright (m refl)
  step_holds w (ArcThrough relative points) m fit = arc_holds of_core w relative points m
  step_holds w (Curve relative points) m fit = curve_holds of_core w relative points m
  step_holds w (PolygonBy Begin) m fit = h.aside w _ refl refl refl refl refl (λ t. t) (begun_follows w w.core.state.place fit)
  step_holds w (PolygonBy Close) m fit = h.aside w _ refl refl refl refl refl (λ t. t) (closed_follows w w.core.state.is_down)
  step_holds w (PolygonBy End) m fit = h.aside w _ refl refl refl refl refl (λ t. t) (closed_follows w w.core.state.is_down)
  step_holds w EdgeBuffer m fit =
      h.joined w (edges_drawn w) (worked w.buffer.places (edges_drawn w)) (in_type w _ (m refl)) (work w.buffer.places (edges_drawn w))
  step_holds w (FillBuffer by_winding) m fit = fill_holds by_winding w (m refl) (not-true w.context.in_polygon fit)
  step_holds w (AnchorBy a) m fit = anchor_holds w a
  step_holds w (Rectangle relative c) m fit =
      let places = places_of w (Edge relative c.x c.y) in
      by_map_of of_core w (kept_step w (Edge relative c.x c.y)) (buffer_filled false)
      (in_if (R w) (are_in_range w.core.range places) _ (h.aside w _ refl refl refl refl refl (λ t. t) (figured w places)))
      (λ (v : FullWorld) (k : R w v). fill_holds false v (m refl) (still_off w v k (not-true w.context.in_polygon fit)))
  step_holds w (WedgeEdge wedge) m fit =
      let places = wedge_places w.core.page w.core.state wedge in
      by_map of_core w (drawn_along w true places) (λ (v : FullWorld). record v { buffer = only_figure places })
      (along_holds of_core w true places (m refl)) (λ (v : FullWorld). h.aside v _ refl refl refl refl refl (λ t. t) (figured v places))
  step_holds w (WedgeFill wedge) m fit =
      let places = wedge_places w.core.page w.core.state wedge in
      by_map_of of_core w (wedge_kept w wedge) (buffer_filled false)
      (in_if (R w) (are_in_range w.core.range places) _ (h.aside w _ refl refl refl refl refl (λ t. t) (figured w places)))
      (λ (v : FullWorld) (k : R w v). fill_holds false v (m refl) (still_off w v k (not-true w.context.in_polygon fit)))
  step_holds w (UserMoveBy n) m fit = user_move_holds of_core w n (m refl)
  step_holds w UserEnd m fit = user_end_holds of_core w (m refl)
  step_holds w EndSheet m fit = h.ended w
  step_holds w (Obey asked) m fit = obey_holds asked w
  step_holds w s m fit = buffer_kept w _ refl refl refl refl refl (λ t. t) refl

  pub run_holds : (ss : List FullStep) (w : FullWorld) → (are_silent w.context.in_polygon ss ≡ false → May) → are_fit w.context.in_polygon ss ≡ true
      → In (R w) (run w ss)
  run_holds [] w m fit = same w
  run_holds (s ∷ ss) w m fit =
      let fits_both = and_parts (fits w.context.in_polygon s) (are_fit w.context.in_polygon ss) fit in
      by_then of_core w (full_step w s) (λ (v : FullWorld). run v ss)
      (step_holds w s (λ e. m (ap (λ (b : Bool). b && are_silent w.context.in_polygon ss) e)) fits_both.0)
      (λ (v : FullWorld) (k : R w v).
      run_holds ss v (subst (λ (c : Context). are_silent c.in_polygon ss ≡ false → May) (sym (h.context_is w v k))
      (λ e. m (second_false (is_silent w.context.in_polygon s) (are_silent w.context.in_polygon ss) e)))
      (subst (λ (c : Context). are_fit c.in_polygon ss ≡ true) (sym (h.context_is w v k)) fits_both.1))
