use Rattle.std.proofs.Common.{◌-◌}
use Rattle.pieces.specs.Texts.{Puts}
use Rattle.plot_report.specs.Summaries.{summary_lines}
use Rattle.plot_report.proofs.report.put_pen_lines.Given as goal

-- the lines of the pens before this one were put
abbrev pub invariant-loop-pen : goal.invariant-loop-pen
invariant-loop-pen g l = Puts g.K.Sink.state l.fn.text l.text (summary_lines l.pens (l.pen - 1))
