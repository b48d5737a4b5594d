use Rattle.std.proofs.Common.{◌≡◌, ◌+◌, ◌++◌, ◌∷◌, ◌∙◌, [], List, ap, sym, arith, take, append-nil, append_assoc}
use Rattle.std.proofs.lemmas.List.{take_all, take_more}
use Rattle.plot_page.specs.Segments.{Segment}
use Rattle.plot_report.specs.Report.{summary_of}
use Rattle.plot_report.proofs.summary.StrokeSummary.with_all.Goals as goal

pub loop-stroke-init : goal.loop-stroke-init
loop-stroke-init c = record {
  sums = λ before h. h ∙ ap summary_of (sym (append-nil before));
  count = omega arith;
}

pub loop-stroke-preserved : goal.loop-stroke-preserved
loop-stroke-preserved c =
    let strokes = c.args.strokes.now in
    let i = c.loop-stroke.stroke-index in
    let s = c.stroke-item.result in
    let more : take (i + 1) strokes ≡ take i strokes ++ (s ∷ []) =
    take_more strokes i s c.loop-stroke-test.true ∙ ap (λ (t : Segment). take i strokes ++ (t ∷ [])) (sym c.stroke-item.is) in
    record {
      sums = λ before h.
          c.with-all.ensures.sums (before ++ take i strokes) (c.loop-stroke.invariant.sums before h)
          ∙ ap summary_of (append_assoc before (take i strokes) (s ∷ []) ∙ ap (λ (ss : List Segment). before ++ ss) (sym more));
      count = omega (arith, c.with-all.ensures.count, c.loop-stroke.invariant.count);
    }

pub returns : goal.returns
returns c = record {
  sums = λ before h.
      let all : take c.loop-stroke.stroke-index c.args.strokes.now ≡ c.args.strokes.now = take_all _ _ (omega arith) in
      rw all at (c.loop-stroke.invariant.sums before h);
}
