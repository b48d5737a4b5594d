use Rattle.std.proofs.Common.{◌≡◌, ◌+◌, drop}
use Rattle.pieces.proofs.Texts.{Left}
use Rattle.stroke_runs.specs.Links.{at_start}
use Rattle.svg.specs.Steps.{steps_text}
use Rattle.svg.proofs.strokes.put_each.Given as goal

-- what is written for the strokes that are left
abbrev pub invariant-loop-stroke : goal.invariant-loop-stroke
invariant-loop-stroke g l = record {
  left : Left g.K.Sink.state l.fn.text l.text (steps_text l.page l.pens l.roles l.runs (drop l.stroke-index l.strokes)) (steps_text l.page l.pens l.fn.roles at_start l.strokes);
  number : l.roles.before ≡ l.fn.roles.before + l.stroke-index;
}
