-- The strokes that a solid fill draws, if there is room for them, are the edges of the buffer; if these are closed
-- sub-polygons, they lead round closed polygons.
use Rattle.std.proofs.Common.{◌≡◌, ◌∙◌, inl, inr, ap, sym, refl, Bool, true, false, true≢false, List, [], ◌∷◌, ◌++◌, append-nil, append_assoc, flat_map, get_or, length, map, nat_lt}
use Rattle.std.proofs.lemmas.Bool.{cases_Bool}
use Rattle.std.proofs.lemmas.List.{map-append}
use Rattle.std.proofs.lemmas.List.Elements.{All-map}
use Rattle.areas.specs.Laws.{AreRound, IsRound, LeadsTo}
use Rattle.exact.specs.declared.spot.Spot.{Spot}
use Rattle.plot_page.specs.Segments.{Segment}
use Rattle.polygons.specs.declared.edge.Edge.{Edge}
use Rattle.polygons.specs.declared.span.Span.{Span}
use Rattle.polygons.specs.Laws.{AreLoops, IsLoop, IsPath}
use Rattle.hpgl_plot.specs.declared.state.State.{State}
use Rattle.hpgl_plot.specs.Inks.{unscreened}
use Rattle.hpgl_plot.specs.Machine as core
use Rattle.full_plot.specs.Fills.{edge_span, inked_span, over_spans, span_stroke, unless}
use Rattle.full_plot.specs.declared.fills.Ink.TheVariants.{Width}
use Rattle.full_plot.specs.Worlds.{FullWorld}
use Rattle.full_plot.proofs.Aside.{full_spans}

-- a span as a stroke of width 0, and edges as such strokes
abbrev pub thin_stroke : State → Span → Segment
thin_stroke s p = record (span_stroke (unscreened s) p) { width = 0 }

abbrev pub thin_edges : State → List Edge → List Segment
thin_edges s es = map (thin_stroke s) (map edge_span es)

leads : (s : State) (p : Spot) (es : List Edge) (q : Spot) → IsPath p es q → LeadsTo p.x p.y (thin_edges s es) q.x q.y
leads s p [] q h = (ap (λ (r : Spot). r.x) h, ap (λ (r : Spot). r.y) h)
leads s p (e ∷ es) q h = (ap (λ (r : Spot). r.x) h.0, ap (λ (r : Spot). r.y) h.0, leads s e.to es q h.1)

loop_round : (s : State) (loop : List Edge) → IsLoop loop → IsRound (thin_edges s loop)
loop_round s loop h = record { x = h.start.x; y = h.start.y; closed = leads s h.start loop h.start h.closed }

joined_edges : (s : State) (loops : List (List Edge))
    → thin_edges s (flat_map (λ loop. loop) loops) ≡ flat_map (λ polygon. polygon) (map (thin_edges s) loops)
joined_edges s [] = refl
joined_edges s (loop ∷ loops) =
    let rest : List Edge = flat_map (λ l. l) loops in
    ap (map (thin_stroke s)) (map-append edge_span loop rest)
    ∙ map-append (thin_stroke s) (map edge_span loop) (map edge_span rest)
    ∙ ap (λ (ss : List Segment). thin_edges s loop ++ ss) (joined_edges s loops)

pub edges_round : (s : State) (edges : List Edge) → AreLoops edges → AreRound (thin_edges s edges)
edges_round s edges h = record {
  polygons = map (thin_edges s) h.loops;
  each = All-map IsRound (thin_edges s) h.loops (λ n d within. loop_round s (get_or h.loops n d) (h.each n d within));
  is = ap (thin_edges s) h.is ∙ joined_edges s h.loops;
}

-- what was not full before
pub was_not : (before after : Bool) → (before ≡ true → after ≡ true) → after ≡ false → before ≡ false
was_not true after h e = absurd (true≢false (sym (h refl) ∙ e))
was_not false after h e = refl

pub full_on : (kept : List Segment) (full : Bool) (ss : List Segment) → full ≡ true → core.full_with kept full ss ≡ true
full_on kept full [] h = h
full_on kept full (s ∷ ss) h = elim (cases_Bool (nat_lt (length kept) 4194304)) [
  | inl t ↦ rw t (full_on (kept ++ s ∷ []) full ss h)
  | inr t ↦ rw t (full_on kept true ss refl)
]

-- if there is room after spans, all of them are drawn
one_drawn : (kept : List Segment) (full : Bool) (s : Segment) → core.full_with kept full (s ∷ []) ≡ false
    → core.kept_with kept full (s ∷ []) ≡ kept ++ s ∷ []
one_drawn kept full s h = elim (cases_Bool (nat_lt (length kept) 4194304)) [
  | inl t ↦ rw t refl
  | inr t ↦ absurd (true≢false (rw t at h))
]

unless_drawn : (full : Bool) (w v : FullWorld) → full ≡ w.core.full → (unless full w v).core.full ≡ false → unless full w v ≡ v
unless_drawn true w v e n = absurd (true≢false (e ∙ n))
unless_drawn false w v e n = refl

still_full : (ps : List Span) (w : FullWorld) → w.core.full ≡ true → (over_spans (Width 0) w ps).core.full ≡ true
still_full ps w h = ap (λ (v : FullWorld). v.core.full) (full_spans (Width 0) ps w h) ∙ h

pub all_drawn : (ps : List Span) (w : FullWorld) → (over_spans (Width 0) w ps).core.full ≡ false
    → (over_spans (Width 0) w ps).core.kept ≡ w.core.kept ++ map (thin_stroke w.core.state) ps
all_drawn [] w n = sym (append-nil w.core.kept)
all_drawn (p ∷ ps) w n =
    let s : State = w.core.state in
    let v : FullWorld = inked_span 0 w p in
    let end : FullWorld = over_spans (Width 0) v ps in
    let same : unless w.core.full w end ≡ end = unless_drawn w.core.full w end refl n in
    let room : end.core.full ≡ false = ap (λ (u : FullWorld). u.core.full) (sym same) ∙ n in
    let one : v.core.kept ≡ w.core.kept ++ thin_stroke s p ∷ [] =
    one_drawn w.core.kept w.core.full (thin_stroke s p) (was_not v.core.full end.core.full (still_full ps v) room) in
    ap (λ (u : FullWorld). u.core.kept) same
    ∙ all_drawn ps v room
    ∙ ap (λ (ss : List Segment). ss ++ map (thin_stroke s) ps) one
    ∙ append_assoc w.core.kept (thin_stroke s p ∷ []) (map (thin_stroke s) ps)

-- edges of an area are no area by themselves
no_area_if : (full : Bool) (w v : FullWorld) → v.areas ≡ w.areas → (unless full w v).areas ≡ w.areas
no_area_if true w v h = refl
no_area_if false w v h = h

pub no_area : (ps : List Span) (w : FullWorld) → (over_spans (Width 0) w ps).areas ≡ w.areas
no_area [] w = refl
no_area (p ∷ ps) w = no_area_if w.core.full w (over_spans (Width 0) (inked_span 0 w p) ps) (no_area ps (inked_span 0 w p))

-- nor the end of a sheet
no_end_if : (full : Bool) (w v : FullWorld) → v.ends ≡ w.ends → (unless full w v).ends ≡ w.ends
no_end_if true w v h = refl
no_end_if false w v h = h

pub no_end : (ps : List Span) (w : FullWorld) → (over_spans (Width 0) w ps).ends ≡ w.ends
no_end [] w = refl
no_end (p ∷ ps) w = no_end_if w.core.full w (over_spans (Width 0) (inked_span 0 w p) ps) (no_end ps (inked_span 0 w p))

-- nor an image
no_image_if : (full : Bool) (w v : FullWorld) → v.graphics ≡ w.graphics → (unless full w v).graphics ≡ w.graphics
no_image_if true w v h = refl
no_image_if false w v h = h

pub no_image : (ps : List Span) (w : FullWorld) → (over_spans (Width 0) w ps).graphics ≡ w.graphics
no_image [] w = refl
no_image (p ∷ ps) w = no_image_if w.core.full w (over_spans (Width 0) (inked_span 0 w p) ps) (no_image ps (inked_span 0 w p))
