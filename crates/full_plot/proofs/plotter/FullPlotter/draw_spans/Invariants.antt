use Rattle.std.proofs.Common.{◌≡◌, drop}
use Rattle.full_plot.specs.Fills.{over_spans}
use Rattle.full_plot.specs.Machine.{seen}
use Rattle.full_plot.proofs.plotter.FullPlotter.draw_spans.Given as goal

-- the spans that are left come to all of them
abbrev pub invariant-loop-span : goal.invariant-loop-span
invariant-loop-span l =
    over_spans l.ink (seen l.self) (drop l.span-index l.spans.items) ≡ over_spans l.fn.ink (seen l.fn.self) l.fn.spans.items
