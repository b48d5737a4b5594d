-- The buffer holds closed sub-polygons, and then the path of the open one; out of polygon mode none is open.
use Rattle.std.proofs.Common.{◌≡◌, refl, sym, ◌∙◌, Bool, true, false, true≢false, List, [], ◌∷◌, Option, Some, None}
use Rattle.exact.specs.declared.spot.Spot.{Spot}
use Rattle.plot_settings.specs.Meanings.{Step, DrawCircle, DrawArc}
use Rattle.polygons.specs.Buffers.{Contents, begun_at, closed, empty_buffer, reached_at, sub_polygon_ended}
use Rattle.polygons.specs.declared.buffer.Opened.{Opened}
use Rattle.polygons.specs.Laws.{HoldsPolygons}
use Rattle.polygons.proofs.BufferLaws.{buffers_hold_polygons_lem}
use Rattle.full_plot.specs.Polygons.{figure_in, only_figure, reached_all, reached_past, traced}
use Rattle.full_plot.specs.Worlds.{FullWorld}

-- further places
pub reached_hold : (is_drawn : Bool) (b : Contents) (qs : List Spot) → HoldsPolygons b → HoldsPolygons (reached_all is_drawn b qs)
reached_hold is_drawn b [] h = h
reached_hold is_drawn b (q ∷ qs) h = reached_hold is_drawn (reached_at b q is_drawn) qs (buffers_hold_polygons_lem.reached b q is_drawn h)

past_hold : (is_drawn : Bool) (b : Contents) (qs : List Spot) → HoldsPolygons b → HoldsPolygons (reached_past is_drawn b qs)
past_hold is_drawn b [] h = h
past_hold is_drawn b (q ∷ qs) h = reached_hold is_drawn b qs h

figure_holds : (b : Contents) (places : List Spot) → HoldsPolygons b → HoldsPolygons (figure_in b places)
figure_holds b [] h = h
figure_holds b (q ∷ qs) h =
    buffers_hold_polygons_lem.closed (reached_all true (begun_at b q) qs) true (reached_hold true (begun_at b q) qs (buffers_hold_polygons_lem.begun b q h))

pub traced_holds : (w : FullWorld) (t : Step) (places : List Spot) → HoldsPolygons w.buffer → HoldsPolygons (traced w t places)
traced_holds w (DrawCircle c) places h =
    figure_holds (closed w.buffer w.core.state.is_down) places (buffers_hold_polygons_lem.closed w.buffer w.core.state.is_down h)
traced_holds w (DrawArc relative a) places h =
    past_hold w.core.state.is_down (begun_at w.buffer w.core.state.place) places (buffers_hold_polygons_lem.begun w.buffer w.core.state.place h)
traced_holds w t places h = past_hold w.core.state.is_down w.buffer places h

-- none is open after a close
ended_shut : (c : Contents) (o : Opened) (is_drawn alone : Bool) → o.is_alone ≡ alone → (sub_polygon_ended c o is_drawn).opened ≡ None
ended_shut c o is_drawn true e = rw e refl
ended_shut c o is_drawn false e = rw e refl

abbrev ended_by : Contents → Bool → Option Opened → Contents
ended_by c is_drawn o = elim o [ None ↦ c | Some o ↦ sub_polygon_ended c o is_drawn ]

shut_by : (c : Contents) (is_drawn : Bool) (o : Option Opened) → c.opened ≡ o → (ended_by c is_drawn o).opened ≡ None
shut_by c is_drawn None e = e
shut_by c is_drawn (Some o) e = ended_shut c o is_drawn o.is_alone refl

pub closed_shut : (c : Contents) (is_drawn : Bool) → (closed c is_drawn).opened ≡ None
closed_shut c is_drawn = shut_by c is_drawn c.opened refl

figure_shut : (places : List Spot) → (only_figure places).opened ≡ None
figure_shut [] = refl
figure_shut (q ∷ qs) = closed_shut (reached_all true (begun_at empty_buffer q) qs) true

-- a buffer that comes after that of a world
pub record Follows (w : FullWorld) (b : Contents) : Type 0 where
  pub holds : HoldsPolygons w.buffer → HoldsPolygons b
  pub shut : w.context.in_polygon ≡ false → w.buffer.opened ≡ None → b.opened ≡ None

pub unchanged : (w : FullWorld) → Follows w w.buffer
unchanged w = record { holds = λ h. h; shut = λ off o. o }

pub cleared : (w : FullWorld) → Follows w empty_buffer
cleared w = record { holds = λ h. buffers_hold_polygons_lem.empty; shut = λ off o. refl }

pub figured : (w : FullWorld) (places : List Spot) → Follows w (only_figure places)
figured w places = record {
  holds = λ h. figure_holds empty_buffer places buffers_hold_polygons_lem.empty;
  shut = λ off o. figure_shut places;
}

pub closed_follows : (w : FullWorld) (is_drawn : Bool) → Follows w (closed w.buffer is_drawn)
closed_follows w is_drawn = record { holds = buffers_hold_polygons_lem.closed w.buffer is_drawn; shut = λ off o. closed_shut w.buffer is_drawn }

-- in polygon mode any may be open
pub follows_on : (w : FullWorld) (b : Contents) → w.context.in_polygon ≡ true → (HoldsPolygons w.buffer → HoldsPolygons b) → Follows w b
follows_on w b on h = record { holds = h; shut = λ off o. absurd (true≢false (sym on ∙ off)) }

pub begun_follows : (w : FullWorld) (q : Spot) → w.context.in_polygon ≡ true → Follows w (begun_at empty_buffer q)
begun_follows w q on = follows_on w (begun_at empty_buffer q) on (λ h. buffers_hold_polygons_lem.begun empty_buffer q buffers_hold_polygons_lem.empty)
