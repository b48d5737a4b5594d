-- The edges of each area of a plot that is accepted lead round closed polygons.
use Rattle.std.proofs.Common.{◌≡◌, ◌∙◌, ap, sym, subst, refl, ℕ, ℤ, Bool, true, false, true≢false, List, [], ◌∷◌, map, All, Option, Some, None, Result, Ok, Err}
use Rattle.std.specs.Prelude.{if◌then◌else◌, ⊤}
use Rattle.std.proofs.lemmas.Bool.{or_parts}
use Rattle.areas.specs.Laws.{AreRound}
use Rattle.areas.specs.Shapes.{edges_of}
use Rattle.areas.specs.declared.area.Area.{Area}
use Rattle.carousel.specs.declared.carousel.Carousel.{Carousel}
use Rattle.character_sets.specs.declared.encoding.Encoding.{Encoding}
use Rattle.line_types.specs.declared.run.Run.{Run}
use Rattle.plot_page.specs.Segments.{Segment}
use Rattle.plot_page.specs.declared.page.Page.{Page}
use Rattle.polygons.specs.Laws.{HoldsPolygons}
use Rattle.polygons.specs.declared.lines.Rule.{Rule}
use Rattle.polygons.specs.declared.span.Span.{Span}
use Rattle.polygons.proofs.BufferLaws.{buffers_hold_polygons_lem}
use Rattle.hpgl_text.specs.Shapes.{ItemShape, BodyShape, Params, Further}
use Rattle.hpgl_text.specs.declared.instruction.Instruction.TheVariants as is
use Rattle.hpgl_plot.specs.declared.fault.PlotFault.{PlotFault}
use Rattle.hpgl_plot.specs.declared.fault.PlotFault.TheVariants as fault
use Rattle.hpgl_plot.specs.declared.state.State.{State}
use Rattle.hpgl_plot.specs.Machine as core
use Rattle.full_settings.specs.declared.polygon_setting.PolygonStep.TheVariants.{Begin, End}
use Rattle.full_settings.specs.declared.requests.FurtherRequest.{FurtherRequest}
use Rattle.full_settings.specs.declared.requests.FurtherRequest.TheVariants as request
use Rattle.full_notes.specs.Contexts.{Context, read_in, request_in}
use Rattle.full_notes.specs.Notes.{after_body, request_after}
use Rattle.full_plot.specs.Drawings.{full_at_start_with, full_ended, full_runs, is_too_much}
use Rattle.full_plot.specs.Fills.{edge_span, edges_inked, solid_filled}
use Rattle.full_plot.specs.Items.{full_steps, request_steps, taken}
use Rattle.full_plot.specs.Machine.{FullStep, run}
use Rattle.full_plot.specs.Sheets.{sheet_ended}
use Rattle.full_plot.specs.Worlds.{FullWorld, Graphics}
use Rattle.full_plot.proofs.AreasHave.{Have, all_have, have_added, have_on, on_kept}
use Rattle.full_plot.proofs.Changes.{In}
use Rattle.full_plot.proofs.FittingSteps.{all_fit}
use Rattle.full_plot.proofs.FullChanges.{Changes, are_fit, run_holds}
use Rattle.full_plot.proofs.HeldPolygons.{Follows, closed_shut}
use Rattle.full_plot.proofs.RoundEdges.{all_drawn, edges_round, full_on, no_area, thin_edges, was_not}

-- the buffer holds polygons, out of polygon mode closed ones; and while there is room for strokes the edges of areas are round
record IsRoundWorld (w : FullWorld) : Type 0 where
  polygons : HoldsPolygons w.buffer
  shut : w.context.in_polygon ≡ false → w.buffer.opened ≡ None
  round : w.core.full ≡ false → Have AreRound w.core.kept w.areas

-- a later world, in which this is so if it was so before
record StaysRound (w v : FullWorld) : Type 0 where
  context_is : v.context ≡ w.context
  full_stays : w.core.full ≡ true → v.core.full ≡ true
  stays : IsRoundWorld w → IsRoundWorld v

round_drawn : (w : FullWorld) (s : State) (ss : List Segment) (r : Option Run) → StaysRound w (record w { core = core.with_strokes w.core s ss; run = r })
round_drawn w s ss r =
    let full : w.core.full ≡ true → core.full_with w.core.kept w.core.full ss ≡ true = full_on w.core.kept w.core.full ss in
    record {
      context_is = refl;
      full_stays = full;
      stays = λ h. record {
        polygons = h.polygons;
        shut = h.shut;
        round = λ room. have_on AreRound w.core.kept _ w.areas (on_kept w.core.kept w.core.full ss)
            (h.round (was_not w.core.full (core.full_with w.core.kept w.core.full ss) full room));
      };
    }

round_aside : (w v : FullWorld) → v.context ≡ w.context → v.core.kept ≡ w.core.kept → v.ends ≡ w.ends → v.areas ≡ w.areas
    → v.graphics ≡ w.graphics → (w.core.full ≡ true → v.core.full ≡ true) → Follows w v.buffer → StaysRound w v
round_aside w v c k e a g full b = record {
  context_is = c;
  full_stays = full;
  stays = λ h. record {
    polygons = b.holds h.polygons;
    shut = λ off. let was : w.context.in_polygon ≡ false = ap (λ (x : Context). x.in_polygon) (sym c) ∙ off in b.shut was (h.shut was);
    round = λ room. rw (k, a) (h.round (was_not w.core.full v.core.full full room));
  };
}

round_ended : (w : FullWorld) → StaysRound w (sheet_ended w)
round_ended w = record {
  context_is = refl;
  full_stays = λ t. t;
  stays = λ h. record { polygons = h.polygons; shut = h.shut; round = h.round };
}

-- what escapes make leaves areas alone
round_graphics : (w : FullWorld) (g : Graphics) → StaysRound w (record w { graphics = g })
round_graphics w g = record {
  context_is = refl;
  full_stays = λ t. t;
  stays = λ h. record { polygons = h.polygons; shut = h.shut; round = h.round };
}

round_area : (w : FullWorld) (rule : Rule) → w.context.in_polygon ≡ false → StaysRound w (edges_inked w) → StaysRound w (solid_filled rule w)
round_area w rule off k =
    let end : FullWorld = edges_inked w in
    let spans : List Span = map edge_span w.buffer.edges in
    record {
      context_is = k.context_is;
      full_stays = k.full_stays;
      stays = λ h.
          let after : IsRoundWorld end = k.stays h in
          record {
            polygons = after.polygons;
            shut = after.shut;
            round = λ room.
                let before : Have AreRound w.core.kept w.areas = h.round (was_not w.core.full end.core.full k.full_stays room) in
                have_added AreRound w.core.kept (thin_edges w.core.state w.buffer.edges) end.core.kept end.areas rule (all_drawn spans w room)
                (edges_round w.core.state w.buffer.edges (buffers_hold_polygons_lem.loops w.buffer h.polygons (h.shut off)))
                (subst (Have AreRound w.core.kept) (sym (no_area spans w)) before);
          };
    }

round_changes : Changes StaysRound ⊤
round_changes = record {
  joined = λ w v u h k. record {
    context_is = k.context_is ∙ h.context_is;
    full_stays = λ t. k.full_stays (h.full_stays t);
    stays = λ r. k.stays (h.stays r);
  };
  context_is = λ w v h. h.context_is;
  drawn = λ w s ss r m. round_drawn w s ss r;
  aside = round_aside;
  ended = round_ended;
  machine = λ w m. round_graphics w _;
  gathers = λ w. round_graphics w _;
  area = round_area;
}

-- what is left after steps that do not end polygon mode
left_round : (w : FullWorld) (o : Option FullWorld) → IsRoundWorld w → In (StaysRound w) o → In IsRoundWorld o
left_round w None h k = tt
left_round w (Some v) h k = k.stays h

steps_round : (w : FullWorld) (c : Context) (ss : List FullStep) → IsRoundWorld w → (c.in_polygon ≡ false → w.context.in_polygon ≡ false)
    → are_fit c.in_polygon ss ≡ true → In IsRoundWorld (run (record w { context = c }) ss)
steps_round w c ss h off fit =
    let within : FullWorld = record w { context = c } in
    let now : IsRoundWorld within = record { polygons = h.polygons; shut = λ e. h.shut (off e); round = h.round } in
    left_round within (run within ss) now (run_holds round_changes ss within (λ e. tt) fit)

-- PM 2 closes the sub-polygon that is open, and IN, BP and DF empty the buffer
request_round : (w : FullWorld) (r : FurtherRequest) (ns : List ℤ) → IsRoundWorld w
    → are_fit (request_after w.context r).in_polygon (request_steps r ns) ≡ true
    → In IsRoundWorld (run (record w { context = request_after w.context r }) (request_steps r ns))
unfolding core.step
request_round w (request.Polygon Begin) ns h fit =
    steps_round w (request_after w.context (request.Polygon Begin)) (request_steps (request.Polygon Begin) ns) h (λ e. absurd (true≢false e)) fit
request_round w (request.Polygon End) ns h fit = record {
  polygons = buffers_hold_polygons_lem.closed w.buffer w.core.state.is_down h.polygons;
  shut = λ e. closed_shut w.buffer w.core.state.is_down;
  round = h.round;
}
request_round w request.Begin ns h fit = record { polygons = buffers_hold_polygons_lem.empty; shut = λ e. refl; round = h.round }
request_round w r ns h fit = steps_round w (request_after w.context r) (request_steps r ns) h (λ e. e) fit

body_round : (w : FullWorld) (b : BodyShape) → IsRoundWorld w → are_fit (after_body w.context b).in_polygon (full_steps w.context b) ≡ true
    → In IsRoundWorld (run (record w { context = after_body w.context b }) (full_steps w.context b))
unfolding core.step
body_round w (Params is.Initialize ns) h fit = record { polygons = buffers_hold_polygons_lem.empty; shut = λ e. refl; round = h.round }
body_round w (Params is.DefaultValues ns) h fit = record { polygons = buffers_hold_polygons_lem.empty; shut = λ e. refl; round = h.round }
body_round w (Further f ns) h fit = request_round w (request_in w.context f ns) ns h fit
body_round w b h fit = steps_round w (after_body w.context b) (full_steps w.context b) h (λ e. e) fit

item_round : (w : FullWorld) (b : BodyShape) → IsRoundWorld w → In IsRoundWorld (taken w b)
item_round w b h = body_round w (read_in w.context b) h (all_fit w.context b)

-- all items; a plot with too many strokes is refused
abbrev IsRoundAfter : Result FullWorld PlotFault → Type 0
IsRoundAfter (Ok w) = IsRoundWorld w × (w.core.full ≡ false)
IsRoundAfter (Err e) = ⊤

round_judged : (full : Bool) (e : PlotFault) (r : Result FullWorld PlotFault) → (full ≡ false → IsRoundAfter r) → IsRoundAfter (if full then Err e else r)
round_judged true e r h = tt
round_judged false e r h = h refl

round_next : (o : Option FullWorld) (at : ℕ) (more : List ItemShape) → In IsRoundWorld o
    → ((v : FullWorld) → IsRoundWorld v → v.core.full ≡ false → IsRoundAfter (full_runs v more))
    → IsRoundAfter (full_ended o at (λ (v : FullWorld). full_runs v more))
round_next None at more h go = tt
round_next (Some v) at more h go =
    round_judged (is_too_much v) (fault.TooManyStrokes at) (full_runs v more) (λ e. go v h (or_parts v.core.full _ e).0)

items_round : (items : List ItemShape) (w : FullWorld) → IsRoundWorld w → w.core.full ≡ false → IsRoundAfter (full_runs w items)
items_round [] w h room = (h, room)
items_round (i ∷ more) w h room =
    round_next (taken w i.body) i.at more (item_round w i.body h) (λ (v : FullWorld) (k : IsRoundWorld v) (e : v.core.full ≡ false). items_round more v k e)

pub areas_round : (encoding : Encoding) (carousel : Carousel) (page : Page) (items : List ItemShape) (v : FullWorld)
    → full_runs (full_at_start_with encoding carousel page) items ≡ Ok v → All (λ (a : Area). AreRound (edges_of v.core.kept a)) v.areas
areas_round encoding carousel page items v e =
    let start : FullWorld = full_at_start_with encoding carousel page in
    let first : IsRoundWorld start = record { polygons = buffers_hold_polygons_lem.empty; shut = λ off. refl; round = λ room. tt } in
    let end : IsRoundWorld v × (v.core.full ≡ false) = subst IsRoundAfter e (items_round items start first refl) in
    all_have AreRound v.core.kept v.areas (end.0.round end.1)
