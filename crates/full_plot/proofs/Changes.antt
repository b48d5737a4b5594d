-- A relation from the world before a step to the one after it: it holds of steps of core, labels, ticks and curves if it
-- holds of the changes that they make, and of one after another.
use Rattle.std.proofs.Common.{◌≡◌, ◌∙◌, ◌≤◌, ℕ, refl, arith, Bool, true, false, true≢false, subst, sym, List, [], ◌∷◌, length, map, nat_lt, Option, Some, None, ℤ, pos, neg_ℤ}
use Rattle.std.specs.Prelude.{if◌then◌else◌, not, ⊤}
use Rattle.std.specs.List.{list_all}
use Rattle.exact.specs.declared.spot.Spot.{Spot}
use Rattle.plot_page.specs.Segments.{Segment}
use Rattle.plot_settings.specs.Meanings.{Step, Touch, Move, Go, Edge, DrawCircle, DrawArc, Write}
use Rattle.hpgl_plot.specs.declared.state.Position.{Position}
use Rattle.hpgl_plot.specs.declared.state.State.{State}
use Rattle.hpgl_plot.specs.Paths.{path, pen_placed}
use Rattle.hpgl_plot.specs.Strokes.{are_in_range}
use Rattle.hpgl_plot.specs.Machine as core
use Rattle.full_settings.specs.declared.character_moves.CharacterMove.{CharacterMove}
use Rattle.full_settings.specs.declared.character_moves.CharacterMove.TheVariants.{ToMargin, By}
use Rattle.full_settings.specs.declared.points.ArcPoints.{ArcPoints}
use Rattle.full_settings.specs.declared.points.CurvePoints.{CurvePoints}
use Rattle.full_settings.specs.declared.polygon_setting.PolygonStep.TheVariants.{Begin}
use Rattle.full_settings.specs.declared.user_moves.UserMove.{UserMove}
use Rattle.full_notes.specs.Contexts.{Context}
use Rattle.line_types.specs.declared.run.Run.{Run}
use Rattle.character_sets.specs.declared.sign.Sign.{Sign}
use Rattle.full_settings.specs.Letters.{grains_of_share}
use Rattle.lettering.specs.Cells.{cell_offset}
use Rattle.lettering.specs.Labels.{styled_label_end, styled_label_strokes}
use Rattle.lettering.specs.UserCharacters.{user_end}
use Rattle.lettering.specs.declared.style.Style.{Style}
use Rattle.polygons.specs.Buffers.{Contents, begun_at}
use Rattle.polygons.specs.Laws.{HoldsPolygons}
use Rattle.polygons.proofs.BufferLaws.{buffers_hold_polygons_lem}
use Rattle.curves.specs.Arcs.{arc_places}
use Rattle.curves.specs.Beziers.{bezier_places}
use Rattle.full_plot.specs.Curves.{arc_step, arrived, curve_pen, curve_step, gone_over, lined, lined_in}
use Rattle.full_plot.specs.Lines.{drawn_along, line_step, places_of, state_after, step_path, with_state}
use Rattle.full_plot.specs.Machine.{FullStep, Core, Print, Place, Tick, ArcThrough, Curve, PolygonBy, EdgeBuffer, FillBuffer, Rectangle, WedgeEdge, WedgeFill, UserMoveBy, UserEnd}
use Rattle.full_plot.specs.Machine.{core_step, full_moved, marked, marked_in, touched_in}
use Rattle.full_plot.specs.Polygons.{lined_by, lined_step, only_figure, trace_step}
use Rattle.full_plot.specs.Bold.{bold_line, bold_lines, letter_lines}
use Rattle.full_plot.specs.Texts.{are_bold, at_margin, inked_at_pen, label_by, labelled, letters_at_pen, line_at, margin_by, marked_by, moved_by, moved_by_characters, put, shifted_by, signs_of, style_of, tick_distance, tick_end, ticked, with_margin}
use Rattle.full_plot.specs.UserCharacters.{character_line, is_near, move_places, user_ended, user_moved}
use Rattle.full_plot.specs.Worlds.{FullWorld, full_followed, with_core}
use Rattle.full_plot.proofs.HeldPolygons.{Follows, figured, follows_on, reached_hold, traced_holds, unchanged}

-- what is left, if anything is left
abbrev pub In : {W : Type 0} → (W → Type 0) → Option W → Type 0
In P None = ⊤
In P (Some w) = P w

pub in_if : {W : Type 0} (P : W → Type 0) (b : Bool) (o : Option W) → In P o → In P (if b then o else None)
in_if P true o h = h
in_if P false o h = tt

pub made_if : {W : Type 0} (b : Bool) (o : Option W) (v : W) → (if b then o else None) ≡ Some v → b ≡ true
made_if true o v h = refl
made_if false o v h = absurd (cc)

pub in_else : {W : Type 0} (P : W → Type 0) (b : Bool) (o : Option W) → In P o → In P (if b then None else o)
in_else P true o h = tt
in_else P false o h = h

-- what holds of both branches
pub either : {W : Type 0} (P : W → Type 0) (b : Bool) (v w : W) → P v → P w → P (if b then v else w)
either P true v w h k = h
either P false v w h k = k

pub either_by : {W : Type 0} (P : W → Type 0) (b : Bool) (v w : W) → (b ≡ true → P v) → (b ≡ false → P w) → P (if b then v else w)
either_by P true v w h k = h refl
either_by P false v w h k = k refl

-- core.followed and full_followed compute as this does
abbrev then_do : {V W : Type 0} → Option V → (V → Option W) → Option W
then_do None f = None
then_do (Some v) f = f v

in_then : {V W : Type 0} (P : V → Type 0) (Q : W → Type 0) (o : Option V) (f : V → Option W) → In P o → ((v : V) → P v → In Q (f v)) → In Q (then_do o f)
in_then P Q None f h go = tt
in_then P Q (Some v) f h go = go v h

-- and with_core, with_margin and the like as this does
abbrev mapped : {V W : Type 0} → (V → W) → Option V → Option W
mapped g None = None
mapped g (Some v) = Some (g v)

in_mapped : {V W : Type 0} (P : V → Type 0) (Q : W → Type 0) (g : V → W) (o : Option V) → In P o → ((v : V) → P v → Q (g v)) → In Q (mapped g o)
in_mapped P Q g None h go = tt
in_mapped P Q g (Some v) h go = go v h

-- whether a step makes no stroke: in polygon mode, or at all
abbrev pub is_silent : Bool → FullStep → Bool
is_silent on (Core Touch) = on
is_silent on (Core (Move x y)) = on
is_silent on (Core (Go relative x y)) = on
is_silent on (Core (DrawCircle c)) = on
is_silent on (Core (DrawArc relative a)) = on
is_silent on (Core (Edge relative x y)) = false
is_silent on (Core (Write text)) = false
is_silent on (ArcThrough relative points) = on
is_silent on (Curve relative points) = on
is_silent on Print = false
is_silent on (Place m) = false
is_silent on (Tick is_upright) = false
is_silent on EdgeBuffer = false
is_silent on (FillBuffer by_winding) = false
is_silent on (Rectangle relative c) = false
is_silent on (UserMoveBy m) = false
is_silent on UserEnd = false
is_silent on (WedgeEdge wedge) = false
is_silent on (WedgeFill wedge) = false
is_silent on s = true

-- whether a step may be there, in polygon mode or out of it: PM 0 is what begins it, and nothing is filled in it
abbrev pub fits : Bool → FullStep → Bool
fits on (PolygonBy Begin) = on
fits on (FillBuffer by_winding) = not on
fits on (Rectangle relative c) = not on
fits on (WedgeFill wedge) = not on
fits on s = true

-- the relation holds of the changes of core: strokes, if any may be made; and another state, left margin and buffer, in
-- which out of polygon mode there are no more places than there may be
pub record CoreChanges (R : FullWorld → FullWorld → Type 0) (May : Type 0) : Type 0 where
  pub joined : (w v u : FullWorld) → R w v → R v u → R w u
  pub context_is : (w v : FullWorld) → R w v → v.context ≡ w.context
  pub drawn : (w : FullWorld) (s : State) (ss : List Segment) (r : Option Run) → May → R w (record w { core = core.with_strokes w.core s ss; run = r })
  pub quiet : (w : FullWorld) (s : State) (q : Spot) (b : Contents) → (w.context.in_polygon ≡ false → w.buffer.places ≤ 4194304 → b.places ≤ 4194304)
      → Follows w b → R w (record w { core = record w.core { state = s }; margin = q; buffer = b })

module _ {R : FullWorld → FullWorld → Type 0} {May : Type 0} (h : CoreChanges R May) where
  moved_to : (w : FullWorld) (s : State) (q : Spot) → R w (record w { core = record w.core { state = s }; margin = q })
  moved_to w s q = h.quiet w s q w.buffer (λ off few. few) (unchanged w)

  same : (w : FullWorld) → R w w
  same w = moved_to w w.core.state w.margin

  past : (w v : FullWorld) (o : Option FullWorld) → R w v → In (R v) o → In (R w) o
  past w v None k l = tt
  past w v (Some u) k l = h.joined w v u k l

  pub by_then : (w : FullWorld) (o : Option FullWorld) (f : FullWorld → Option FullWorld) → In (R w) o
      → ((v : FullWorld) → R w v → In (R v) (f v)) → In (R w) (full_followed o f)
  by_then w o f k go = in_then (R w) (R w) o f k (λ (v : FullWorld) (l : R w v). past w v (f v) l (go v l))

  pub by_map_of : (w : FullWorld) (o : Option FullWorld) (g : FullWorld → FullWorld) → In (R w) o → ((v : FullWorld) → R w v → R v (g v))
      → In (R w) (mapped g o)
  by_map_of w o g k go = in_mapped (R w) (R w) g o k (λ (v : FullWorld) (l : R w v). h.joined w v (g v) l (go v l))

  pub by_map : (w : FullWorld) (o : Option FullWorld) (g : FullWorld → FullWorld) → In (R w) o → ((v : FullWorld) → R v (g v)) → In (R w) (mapped g o)
  by_map w o g k go = by_map_of w o g k (λ (v : FullWorld) (l : R w v). go v)

  by_margin : (w : FullWorld) (o : Option FullWorld) (q : Spot) → In (R w) o → In (R w) (with_margin q o)
  by_margin w o q k = by_map w o (λ (v : FullWorld). record v { margin = q }) k (λ (v : FullWorld). moved_to v v.core.state q)

  -- core in a world
  abbrev With : FullWorld → core.World → Type 0
  With w c = R w (record w { core = c })

  by_core : (w : FullWorld) (o : Option core.World) → In (With w) o → In (R w) (with_core w o)
  by_core w o k = in_mapped (With w) (R w) (λ (c : core.World). record w { core = c }) o k (λ (c : core.World) (l : With w c). l)

  core_past : (w : FullWorld) (c : core.World) (o : Option core.World) → With w c → In (With (record w { core = c })) o → In (With w) o
  core_past w c None k l = tt
  core_past w c (Some d) k l = h.joined w (record w { core = c }) (record w { core = d }) k l

  core_then : (w : FullWorld) (o : Option core.World) (f : core.World → Option core.World) → In (With w) o
      → ((c : core.World) → In (With (record w { core = c })) (f c)) → In (With w) (core.followed o f)
  core_then w o f k go = in_then (With w) (With w) o f k (λ (c : core.World) (l : With w c). core_past w c (f c) l (go c))

  travelled : (w : FullWorld) (draws : Bool) (places : List Spot) → May → In (With w) (core.travelled w.core draws places)
  travelled w draws places m = in_if (With w) (are_in_range w.core.range places) _ (h.drawn w w.core.state _ w.run m)

  all_travelled : (ls : List (List Spot)) (w : FullWorld) → May → In (With w) (core.travelled_all w.core true ls)
  all_travelled [] w m = same w
  all_travelled (l ∷ ls) w m =
      core_then w (core.travelled w.core true l) (λ (c : core.World). core.travelled_all c true ls) (travelled w true l m)
      (λ (c : core.World). all_travelled ls (record w { core = c }) m)

  inked : (w : FullWorld) (strokes : List (Spot × Spot)) → May → In (With w) (inked_at_pen w.core strokes)
  inked w strokes m = all_travelled (map (line_at w.core.state.place) strokes) w m

  bold_line_drawn : (w : FullWorld) (places : List Spot) → May → In (With w) (bold_line w.core places)
  bold_line_drawn w places m = in_if (With w) (are_in_range w.core.range places) _ (h.drawn w w.core.state _ w.run m)

  all_bold : (ls : List (List Spot)) (w : FullWorld) → May → In (With w) (bold_lines w.core ls)
  all_bold [] w m = same w
  all_bold (l ∷ ls) w m =
      core_then w (bold_line w.core l) (λ (c : core.World). bold_lines c ls) (bold_line_drawn w l m)
      (λ (c : core.World). all_bold ls (record w { core = c }) m)

  all_lettered : (is_bold : Bool) (ls : List (List Spot)) (w : FullWorld) → May → In (With w) (letter_lines is_bold w.core ls)
  all_lettered true ls w m = all_bold ls w m
  all_lettered false ls w m = all_travelled ls w m

  lettered : (is_bold : Bool) (w : FullWorld) (strokes : List (Spot × Spot)) → May → In (With w) (letters_at_pen is_bold w.core strokes)
  lettered is_bold w strokes m = all_lettered is_bold (map (line_at w.core.state.place) strokes) w m

  put_at : (w : FullWorld) (q : Spot) → May → In (With w) (put w.core q)
  put_at w q m =
      let p : Position = pen_placed w.core.page w.core.state.frame q in
      let s : State = core.moved w.core.state p in
      in_mapped (With w) (With w) (λ (c : core.World). record c { state = s }) (core.travelled w.core true (p.place ∷ []))
      (travelled w true (p.place ∷ []) m)
      (λ (c : core.World) (k : With w c). h.joined w (record w { core = c }) _ k (moved_to (record w { core = c }) s w.margin))

  label : (is_bold : Bool) (w : FullWorld) (style : Style) (signs : List Sign) → May → In (With w) (label_by is_bold style w.core signs)
  label is_bold w style signs m =
      let end : Spot = moved_by w.core.state.place (styled_label_end style signs) in
      core_then w (letters_at_pen is_bold w.core (styled_label_strokes style signs)) (λ (c : core.World). put c end)
      (lettered is_bold w (styled_label_strokes style signs) m) (λ (c : core.World). put_at (record w { core = c }) end m)

  -- labels and ticks
  pub labelled_holds : (w : FullWorld) (text : List ℕ) → May → In (R w) (labelled w text)
  labelled_holds w text m = by_margin w _ _ (by_core w _ (in_else (With w) (nat_lt 67108864 (length text)) _ (label (are_bold w) w (style_of w) (signs_of w text) m)))

  pub place_holds : (w : FullWorld) (n : CharacterMove) → May → In (R w) (moved_by_characters w n)
  place_holds w ToMargin m = by_margin w _ _ (by_core w _ (put_at w (margin_by w.margin (cell_offset (style_of w) (pos 0) (pos 1000000))) m))
  place_holds w (By n) m = by_margin w _ _ (by_core w _ (put_at w (moved_by w.core.state.place (cell_offset (style_of w) n.x (neg_ℤ n.y))) m))

  pub tick_holds : (w : FullWorld) (is_upright : Bool) → May → In (R w) (ticked w is_upright)
  tick_holds w is_upright m =
      let part = grains_of_share (tick_distance w is_upright) in
      let end = tick_end w.core.state.frame.rotation is_upright in
      let stroke : Spot × Spot = (end (neg_ℤ (part w.writing.ticks.down)), end (part w.writing.ticks.up)) in
      by_core w (inked_at_pen w.core (stroke ∷ [])) (inked w (stroke ∷ []) m)

  -- characters by moves
  character_lined : (w : FullWorld) (is_bold is_drawn : Bool) (places : List Spot) → May → In (With w) (character_line is_bold is_drawn w.core places)
  character_lined w true true places m = bold_line_drawn w places m
  character_lined w true false places m = travelled w false places m
  character_lined w false is_drawn places m = travelled w is_drawn places m

  pub user_move_holds : (w : FullWorld) (n : UserMove) → May → In (R w) (user_moved w n)
  user_move_holds w n m = in_if (R w) (is_near n.to) _ (by_core w _ (character_lined w (are_bold w) n.is_drawn (move_places w n) m))

  pub user_end_holds : (w : FullWorld) → May → In (R w) (user_ended w)
  user_end_holds w m = by_core w _ (put_at w (moved_by w.core.state.place (user_end (style_of w))) m)

  -- lines: out of polygon mode they may be drawn
  abbrev MayLine : FullWorld → Type 0
  MayLine w = w.context.in_polygon ≡ false → May

  may_on : (w v : FullWorld) → R w v → MayLine w → MayLine v
  may_on w v k m = subst (λ (c : Context). c.in_polygon ≡ false → May) (sym (h.context_is w v k)) m

  pub along_holds : (w : FullWorld) (draws : Bool) (places : List Spot) → May → In (R w) (drawn_along w draws places)
  along_holds w draws places m = in_if (R w) (are_in_range w.core.range places) _ (h.drawn w w.core.state _ _ m)

  line : (w : FullWorld) (t : Step) → May → In (R w) (line_step w t)
  unfolding line_step
  line w t m =
      by_map w (drawn_along w (step_path w t).draws (places_of w t)) (λ (v : FullWorld). with_state v (state_after w t))
      (along_holds w (step_path w t).draws (places_of w t) m)
      (λ (v : FullWorld). moved_to v (state_after w t) v.margin)

  in_buffer : (w : FullWorld) (s : State) (b : Contents) → w.context.in_polygon ≡ true → (HoldsPolygons w.buffer → HoldsPolygons b)
      → R w (record w { core = record w.core { state = s }; buffer = b })
  in_buffer w s b on held = h.quiet w s w.margin b (λ off few. absurd (true≢false (sym on ∙ off))) (follows_on w b on held)

  line_in : (on : Bool) (w : FullWorld) (t : Step) → w.context.in_polygon ≡ on → MayLine w → In (R w) (lined_by on w t)
  unfolding trace_step
  line_in true w t e m = in_if (R w) (are_in_range w.core.range (places_of w t)) _ (in_buffer w _ _ e (traced_holds w t (places_of w t)))
  line_in false w t e m = line w t (m e)

  lined_holds : (w : FullWorld) (t : Step) → MayLine w → In (R w) (lined_step w t)
  lined_holds w t m = line_in w.context.in_polygon w t refl m

  symbol_in : (symbol : Option ℕ) (w : FullWorld) → May → In (R w) (marked_by symbol w)
  symbol_in None w m = same w
  symbol_in (Some byte) w m = by_core w _ (lettered (are_bold w) w _ m)

  mark_in : (on : Bool) (w : FullWorld) → w.context.in_polygon ≡ on → MayLine w → In (R w) (marked_in on w)
  mark_in true w e m = same w
  mark_in false w e m = symbol_in w.writing.symbol w (m e)

  touch_in : (on : Bool) (w : FullWorld) → w.context.in_polygon ≡ on → MayLine w → In (R w) (touched_in on w)
  unfolding core.step
  touch_in true w e m = same w
  touch_in false w e m = by_core w _ (in_if (With w) (list_all (are_in_range w.core.range) (path w.core.page w.core.state Touch).lines) _ (h.drawn w _ _ w.run (m e)))

  -- a move, after which the symbol is drawn
  move_holds : (w : FullWorld) (t : Step) → MayLine w → In (R w) (full_moved w t)
  move_holds w t m =
      by_then w (lined_step w t) (λ (v : FullWorld). marked (at_margin v)) (lined_holds w t m)
      (λ (v : FullWorld) (k : R w v).
      past v (at_margin v) (marked (at_margin v)) (moved_to v v.core.state v.core.state.place)
      (mark_in v.context.in_polygon (at_margin v) refl (may_on w v k m)))

  -- the edge of a rectangle has five places
  edge_places : (w : FullWorld) (relative : Bool) (x y : ℤ) → (only_figure (places_of w (Edge relative x y))).places ≤ 4194304
  edge_places w relative x y = omega arith

  -- a text that selects sets changes them
  abbrev pub Shifts : Step → Type 0
  Shifts (Write text) = (w : FullWorld) → R w (shifted_by text w)
  Shifts _ = ⊤

  pub core_holds : (w : FullWorld) (t : Step) → (is_silent w.context.in_polygon (Core t) ≡ false → May) → Shifts t → In (R w) (core_step w t)
  unfolding core.step
  core_holds w Touch m k = touch_in w.context.in_polygon w refl m
  core_holds w (Move x y) m k = move_holds w (Move x y) m
  core_holds w (Go relative x y) m k = move_holds w (Go relative x y) m
  core_holds w (DrawArc relative a) m k =
      by_then w (lined_step w (DrawArc relative a)) (λ (v : FullWorld). Some (at_margin v)) (lined_holds w (DrawArc relative a) m)
      (λ (v : FullWorld) (l : R w v). moved_to v v.core.state v.core.state.place)
  core_holds w (Edge relative x y) m k =
      let b : Contents = only_figure (places_of w (Edge relative x y)) in
      by_map w (line_step w (Edge relative x y)) (λ (v : FullWorld). record v { buffer = b }) (line w (Edge relative x y) (m refl))
      (λ (v : FullWorld). h.quiet v v.core.state v.margin b (λ off few. edge_places w relative x y) (figured v (places_of w (Edge relative x y))))
  core_holds w (DrawCircle c) m k = lined_holds w (DrawCircle c) m
  core_holds w (Write text) m k = by_map w (labelled w text) (shifted_by text) (labelled_holds w text (m refl)) k
  core_holds w t m k = moved_to w _ w.margin

  -- curves
  curve_in : (on : Bool) (w : FullWorld) (places : List Spot) → w.context.in_polygon ≡ on → MayLine w → In (R w) (lined_in on w places)
  curve_in true w places e m =
      let start : Spot = w.core.state.place in
      in_if (R w) (are_in_range w.core.range (start ∷ places)) _
      (in_buffer w w.core.state _ e
      (λ held. reached_hold w.core.state.is_down (begun_at w.buffer start) places (buffers_hold_polygons_lem.begun w.buffer start held)))
  curve_in false w places e m = along_holds w w.core.state.is_down (w.core.state.place ∷ places) (m e)

  over_holds : (w : FullWorld) (places : List Spot) (end : Position) → MayLine w → In (R w) (gone_over w places end)
  over_holds w places end m =
      by_then w (lined w places) (λ (v : FullWorld). Some (arrived end v)) (curve_in w.context.in_polygon w places refl m)
      (λ (v : FullWorld) (k : R w v). moved_to v _ _)

  pub arc_holds : (w : FullWorld) (relative : Bool) (points : ArcPoints) → MayLine w → In (R w) (arc_step w relative points)
  arc_holds w relative points m =
      let through : Spot = (curve_pen w relative points.through).place in
      let end : Position = curve_pen w relative points.to in
      in_if (R w) (are_in_range w.core.range (through ∷ (end.place ∷ []))) _ (over_holds w (arc_places w.core.state.place through end.place) end m)

  pub curve_holds : (w : FullWorld) (relative : Bool) (points : CurvePoints) → MayLine w → In (R w) (curve_step w relative points)
  curve_holds w relative points m =
      let first : Spot = (curve_pen w relative points.first).place in
      let second : Spot = (curve_pen w relative points.second).place in
      let end : Position = curve_pen w relative points.to in
      in_if (R w) (are_in_range w.core.range (first ∷ (second ∷ (end.place ∷ [])))) _
      (over_holds w (bezier_places w.core.state.place first second end.place) end m)
