use Rattle.std.proofs.Common.{◌≡◌, ◌+◌, ◌∙◌, ◌∷◌, List, Option, Bool, true, false, ap, cond, drop, refl, sym}
use Rattle.std.proofs.lemmas.List.{drop_all}
use Rattle.plot_page.specs.Segments.{Segment}
use Rattle.plot_page.specs.declared.colour.Colour.{Colour}
use Rattle.stroke_runs.specs.Drawn.{drawn, is_drawn}
use Rattle.svg.proofs.Texts.{next_item}
use Rattle.dxf.specs.Layers.{with_stroke, with_strokes}
use Rattle.dxf.proofs.layers.Layers.of.Goals as goal

-- the next stroke, if it is drawn
next_by : (b : Bool) (numbers : List (Option Colour)) (s : Segment) (ss : List Segment) → with_strokes numbers (cond b (s ∷ ss) ss) ≡ with_strokes (cond b (with_stroke numbers s) numbers) ss
next_by true numbers s ss = refl
next_by false numbers s ss = refl

pub loop-stroke-preserved : goal.loop-stroke-preserved
loop-stroke-preserved c =
    let l = c.loop-stroke in
    let pens = c.args.pens.now in
    let strokes = c.args.strokes.now in
    let s = c.stroke-item.result in
    let others = drop (l.stroke-index + 1) strokes in
    record {
      sheet = c.add_drawn.ensures.sheet ∙ l.invariant.sheet;
      colours = ap (λ (ns : List (Option Colour)). with_strokes ns (drawn pens others)) c.add_drawn.ensures.colours
          ∙ sym (next_by (is_drawn pens s) l.layers.colours s (drawn pens others))
          ∙ ap (λ (ss : List Segment). with_strokes l.layers.colours (drawn pens ss)) (sym (next_item strokes l.stroke-index s c.loop-stroke-test.true c.stroke-item.is))
          ∙ l.invariant.colours;
    }

pub returns : goal.returns
returns c =
    let l = c.loop-stroke in
    let none = ap (λ (ss : List Segment). with_strokes l.layers.colours (drawn c.args.pens.now ss)) (sym (drop_all l.stroke-index c.args.strokes.now c.loop-stroke-test.false)) in
    let colours = none ∙ l.invariant.colours in
    λ i. record { sheet = l.invariant.sheet i; colours = colours i }
