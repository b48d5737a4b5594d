use Rattle.polygons.specs.Fills.{spans}
use Rattle.polygons.specs.declared.span.Span.{Span}
use Rattle.full_plot.specs.Fills.{over_spans}
use Rattle.std.proofs.Common.{◌∙◌, ap, sym, Some, List}
use Rattle.std.specs.List.{flat_map}
use Rattle.full_plot.specs.Machine.{seen}
use Rattle.full_plot.specs.Worlds.{FullWorld}
use Rattle.full_plot.proofs.Aside.{full_spans, one_line_of}
use Rattle.full_plot.proofs.plotter.FullPlotter.fill_edges.Goals as goal

pub returns-then-self : goal.returns-then-self
returns-then-self c =
    let v = seen c.draw_spans.new.self in
    let rest = flat_map (λ line. line) c.next_spans.new.fill in
    let line = rw c.if-branch.true at c.in_ok-next_spans.ensures.line in
    let all = one_line_of c.args.ink c.next_spans.new.spans.items c.lines.fill c.next_spans.new.fill (seen c.lines.self) v _ line c.in_ok-draw_spans.ensures c.lines.invariant in
    ap (λ (u : FullWorld). Some u) (sym all ∙ full_spans c.args.ink rest v c.if-self.true)

pub lines-preserved : goal.lines-preserved
lines-preserved c =
    let line = rw c.if-branch.true at c.in_ok-next_spans.ensures.line in
    one_line_of c.args.ink c.next_spans.new.spans.items c.lines.fill c.next_spans.new.fill (seen c.lines.self) (seen c.draw_spans.new.self) _ line c.in_ok-draw_spans.ensures c.lines.invariant

pub lines-init : goal.lines-init
unfolding spans
lines-init c = ap (λ (ls : List (List Span)). over_spans c.args.ink (seen c.args.self.now) (flat_map (λ line. line) ls)) c.in_ok-fill.ensures.fill
