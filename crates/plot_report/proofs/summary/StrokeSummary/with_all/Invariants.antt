use Rattle.std.proofs.Common.{◌≡◌, ◌+◌, ◌++◌, List, take}
use Rattle.plot_page.specs.Segments.{Segment}
use Rattle.plot_report.specs.Report.{summary_of}
use Rattle.plot_report.proofs.summary.StrokeSummary.with_all.Given as goal

-- those so far are added
abbrev pub invariant-loop-stroke : goal.invariant-loop-stroke
invariant-loop-stroke l = record {
  sums : (before : List Segment) → l.fn.self ≡ summary_of before → l.all ≡ summary_of (before ++ take l.stroke-index l.strokes);
  count : l.all.strokes ≡ l.fn.self.strokes + l.stroke-index;
}
