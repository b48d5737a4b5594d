use Rattle.std.proofs.Common.{◌≡◌, ◌∙◌, ap}
use Rattle.polygons.specs.Buffers.{Contents, empty_buffer}
use Rattle.polygons.specs.Fills.{spans}
use Rattle.full_plot.specs.Machine.{seen}
use Rattle.full_plot.proofs.Aside.{runs_aside}
use Rattle.full_plot.proofs.plotter.FullPlotter.fill_lines.Goals as goal

-- the buffer is put aside meanwhile
pub returns : goal.returns
returns c =
    let w = seen c.args.self.now in
    let put : c.replace-buffer.new.dest ≡ empty_buffer = c.replace-buffer.ensures.after ∙ c.new.ensures in
    let same : c.edges.result.now ≡ w.buffer.edges = c.edges.ensures ∙ ap (λ (b : Contents). b.edges) c.replace-buffer.ensures.value in
    rw c.replace-buffer.ensures.value
    (runs_aside w (seen c.fill_edges-drawn.new.self) c.args.ink (spans c.args.lines c.args.rule w.buffer.edges) c.fill_edges-drawn.result (rw (put, same) at c.fill_edges-drawn.ensures))
