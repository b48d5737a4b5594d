-- The edges of an area are alike, since those of a fill are.
use Rattle.std.proofs.Common.{◌≡◌, ◌∙◌, inl, inr, ap, sym, refl, Bool, true, false, List, [], ◌∷◌, ◌++◌, append-nil, get_or, length, nat_lt, All}
use Rattle.std.proofs.lemmas.Bool.{cases_Bool}
use Rattle.std.proofs.lemmas.List.{append_assoc}
use Rattle.std.proofs.lemmas.List.Elements.{All-append, All-cons, All-nil}
use Rattle.areas.specs.declared.area.Area.{Area}
use Rattle.plot_page.specs.Segments.{Segment}
use Rattle.polygons.specs.declared.lines.Rule.{Rule}
use Rattle.polygons.specs.declared.span.Span.{Span}
use Rattle.hpgl_plot.specs.declared.state.State.{State}
use Rattle.hpgl_plot.specs.Inks.{unscreened}
use Rattle.hpgl_plot.specs.Machine as core
use Rattle.full_plot.specs.Drawings.{AreAlike, LooksAs}
use Rattle.full_plot.specs.Fills.{area_of, inked_span, over_spans, span_stroke, unless}
use Rattle.full_plot.specs.declared.fills.Ink.TheVariants.{Width}
use Rattle.full_plot.specs.Worlds.{FullWorld, page_origin}
use Rattle.full_plot.proofs.AreasHave.{Have, have_added}

-- strokes that go on after others, and look as one of width 0
pub record AreInked (before after : List Segment) (look : Segment) : Type 0 where
  pub more : List Segment
  pub joined : after ≡ before ++ more
  pub same : All (LooksAs look) more

none_inked : (before : List Segment) (look : Segment) → AreInked before before look
none_inked before look = record { more = []; joined = sym (append-nil before); same = All-nil (LooksAs look) }

one_inked : (kept : List Segment) (full : Bool) (s look : Segment) → LooksAs look s → AreInked kept (core.kept_with kept full (s ∷ [])) look
one_inked kept full s look h = elim (cases_Bool (nat_lt (length kept) 4194304)) [
  | inl t ↦ rw t (record { more = s ∷ []; joined = refl; same = All-cons (LooksAs look) s [] h (All-nil (LooksAs look)) })
  | inr t ↦ rw t (none_inked kept look)
]

then_inked : (a b c : List Segment) (look : Segment) → AreInked a b look → AreInked b c look → AreInked a c look
then_inked a b c look h k = record {
  more = h.more ++ k.more;
  joined = k.joined ∙ ap (λ (ss : List Segment). ss ++ k.more) h.joined ∙ append_assoc a h.more k.more;
  same = All-append (LooksAs look) h.more k.more h.same k.same;
}

unless_inked : (full : Bool) (w v : FullWorld) (look : Segment) → AreInked w.core.kept v.core.kept look → AreInked w.core.kept (unless full w v).core.kept look
unless_inked true w v look h = none_inked w.core.kept look
unless_inked false w v look h = h

-- how spans look that are 0 wide
abbrev pub thin_look : State → Segment
thin_look s = record (span_stroke (unscreened s) (record { from = page_origin; to = page_origin })) { width = 0 }

pub spans_inked : (ps : List Span) (w : FullWorld) → AreInked w.core.kept (over_spans (Width 0) w ps).core.kept (thin_look w.core.state)
spans_inked [] w = none_inked w.core.kept (thin_look w.core.state)
spans_inked (p ∷ ps) w =
    let v : FullWorld = inked_span 0 w p in
    let look = thin_look w.core.state in
    unless_inked w.core.full w (over_spans (Width 0) v ps) look
    (then_inked w.core.kept v.core.kept (over_spans (Width 0) v ps).core.kept look
    (one_inked w.core.kept w.core.full (record (span_stroke (unscreened w.core.state) p) { width = 0 }) look refl) (spans_inked ps v))

-- strokes that look as one look as each other
alike_by : (look : Segment) (ss : List Segment) → look.width ≡ 0 → All (LooksAs look) ss → AreAlike ss
alike_by look ss thin h = λ n d within.
    let s : Segment = get_or ss n d in
    let first : LooksAs look s = h n d within in (
      ap (λ (t : Segment). t.width) (sym first) ∙ thin,
      λ m e inside.
          let t : Segment = get_or ss m e in
          ap (λ (u : Segment). record u { ax = t.ax; ay = t.ay; bx = t.bx; by = t.by }) (sym first) ∙ h m e inside,
    )

-- with an area of them
pub alike_added : (strokes after : List Segment) (areas : List Area) (rule : Rule) (look : Segment) → look.width ≡ 0 → AreInked strokes after look
    → Have AreAlike strokes areas → Have AreAlike after (areas ++ area_of (length strokes) (length after) rule)
alike_added strokes after areas rule look thin k h =
    have_added AreAlike strokes k.more after areas rule k.joined (alike_by look k.more thin k.same) h
