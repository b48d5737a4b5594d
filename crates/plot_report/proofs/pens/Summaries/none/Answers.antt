use Rattle.std.proofs.Common.{[], refl}
use Rattle.std.proofs.lemmas.List.{get_or-replicate}
use Rattle.plot_report.specs.Summaries.{pen_summary}
use Rattle.plot_report.proofs.pens.Summaries.none.Goals as goal

pub returns : goal.returns
returns c = record {
  strokes = refl;
  pens = λ pen d some small. get_or-replicate 256 pen (pen_summary []) d small;
}
