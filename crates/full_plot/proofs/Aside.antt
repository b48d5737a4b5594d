-- The buffer plays no part in how spans and edges are drawn, so code may put it aside meanwhile.
use Rattle.std.proofs.Common.{◌≡◌, ◌∙◌, ◌+◌, ℕ, ◌++◌, refl, ap, sym, inl, inr, Option, Some, None, Result, Ok, Err, Bool, true, false, List, [], ◌∷◌, length, nat_lt, nat_eq}
use Rattle.std.specs.List.{flat_map}
use Rattle.std.proofs.lemmas.Bool.{cases_Bool}
use Rattle.std.proofs.lemmas.Option.{none-some, same_Some}
use Rattle.hpgl_plot.specs.declared.plotter.Stop.{Stop}
use Rattle.hpgl_plot.specs.declared.plotter.Stop.TheVariants.{Memory, OffRange}
use Rattle.polygons.specs.Buffers.{Contents, empty_buffer}
use Rattle.full_plot.specs.Machine.{Runs}
use Rattle.polygons.specs.declared.span.Span.{Span}
use Rattle.full_plot.specs.declared.fills.Ink.{Ink}
use Rattle.full_plot.specs.declared.fills.Ink.TheVariants.{Width, Line}
use Rattle.full_plot.specs.Fills.{counted, over_spans, span_stroke, unless, with_span}
use Rattle.full_plot.specs.Lines.{drawn_in_type}
use Rattle.full_plot.specs.Work.{worked}
use Rattle.full_plot.specs.Worlds.{FullWorld}

abbrev buffer_put : Contents → Option FullWorld → Option FullWorld
buffer_put b None = None
buffer_put b (Some w) = Some (record w { buffer = b })

abbrev pub beside : Contents → FullWorld → FullWorld
beside b w = record w { buffer = b }

work_aside : (n : ℕ) (w : FullWorld) (b : Contents) → worked n (beside b w) ≡ beside b (worked n w)
work_aside n w b = elim (cases_Bool (nat_lt 4194304 (length w.core.kept + w.extra + n))) [
  | inl i ↦ rw i refl
  | inr i ↦ rw i refl
]

counted_aside : (w v : FullWorld) (b : Contents) → counted (beside b w) (beside b v) ≡ beside b (counted w v)
counted_aside w v b = elim (cases_Bool (nat_eq (length v.core.kept) (length w.core.kept))) [
  | inl i ↦ rw i (work_aside 1 v b)
  | inr i ↦ rw i refl
]

ink_aside : (ink : Ink) (w : FullWorld) (p : Span) (b : Contents) → with_span ink (beside b w) p ≡ beside b (with_span ink w p)
ink_aside (Width width) w p b = refl
ink_aside Line w p b = counted_aside w (drawn_in_type w (span_stroke w.core.state p ∷ [])) b

unless_aside : (full : Bool) (w v u : FullWorld) (b : Contents) → u ≡ beside b v → unless full (beside b w) u ≡ beside b (unless full w v)
unless_aside true w v u b h = refl
unless_aside false w v u b h = h

pub spans_aside : (ink : Ink) (ps : List Span) (w : FullWorld) (b : Contents)
    → over_spans ink (beside b w) ps ≡ beside b (over_spans ink w ps)
spans_aside ink [] w b = refl
spans_aside ink (p ∷ ps) w b =
    unless_aside w.core.full w (over_spans ink (with_span ink w p) ps) (over_spans ink (with_span ink (beside b w) p) ps) b
    (ap (λ (v : FullWorld). over_spans ink v ps) (ink_aside ink w p b) ∙ spans_aside ink ps (with_span ink w p) b)

-- when there is too much, nothing more is drawn
pub full_spans : (ink : Ink) (ps : List Span) (w : FullWorld) → w.core.full ≡ true → over_spans ink w ps ≡ w
full_spans ink [] w h = refl
full_spans ink (p ∷ ps) w h = ap (λ (full : Bool). unless full w (over_spans ink (with_span ink w p) ps)) h

-- what a call leaves that draws spans while the buffer is put aside
pub runs_aside : {U : Type 0} (w v : FullWorld) (ink : Ink) (ps : List Span) (r : Result U Stop) → Runs (Some (over_spans ink (beside empty_buffer w) ps)) v r
    → Runs (Some (over_spans ink w ps)) (beside w.buffer v) r
runs_aside w v ink ps (Ok x) h =
    ap (λ (u : FullWorld). Some u) (spans_aside ink ps w w.buffer)
    ∙ ap (λ (o : Option FullWorld). buffer_put w.buffer o) (ap (λ (u : FullWorld). Some u) (sym (spans_aside ink ps w empty_buffer)) ∙ h)
runs_aside w v ink ps (Err Memory) h = tt
runs_aside w v ink ps (Err OffRange) h = absurd (none-some _ (sym h))

-- some spans, and the rest
then_spans : (ink : Ink) (full : Bool) (ps qs : List Span) (w v : FullWorld) → w.core.full ≡ full
    → over_spans ink v (ps ++ qs) ≡ over_spans ink (over_spans ink v ps) qs
    → unless full w (over_spans ink v (ps ++ qs)) ≡ over_spans ink (unless full w (over_spans ink v ps)) qs
then_spans ink true ps qs w v e h = sym (full_spans ink qs w e)
then_spans ink false ps qs w v e h = h

pub spans-append : (ink : Ink) (ps qs : List Span) (w : FullWorld)
    → over_spans ink w (ps ++ qs) ≡ over_spans ink (over_spans ink w ps) qs
spans-append ink [] qs w = refl
spans-append ink (p ∷ ps) qs w = then_spans ink w.core.full ps qs w (with_span ink w p) refl (spans-append ink ps qs (with_span ink w p))

-- the spans of one line, and of the rest
pub one_line_of : (ink : Ink) (ps : List Span) (lines rest : List (List Span)) (w v o : FullWorld) → lines ≡ ps ∷ rest → Some (over_spans ink w ps) ≡ Some v
    → over_spans ink w (flat_map (λ line. line) lines) ≡ o → over_spans ink v (flat_map (λ line. line) rest) ≡ o
one_line_of ink ps lines rest w v o e k m =
    let qs : List Span = flat_map (λ line. line) rest in
    sym (ap (λ (u : FullWorld). over_spans ink u qs) (same_Some _ _ k)) ∙ sym (spans-append ink ps qs w)
    ∙ sym (ap (λ (ls : List (List Span)). over_spans ink w (flat_map (λ line. line) ls)) e) ∙ m
