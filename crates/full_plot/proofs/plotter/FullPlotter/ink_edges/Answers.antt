use Rattle.std.proofs.Common.{◌≡◌, ◌∙◌, ap, map}
use Rattle.polygons.specs.Buffers.{Contents, empty_buffer}
use Rattle.full_plot.specs.declared.fills.Ink.TheVariants.{Width}
use Rattle.full_plot.specs.Fills.{edge_span}
use Rattle.full_plot.specs.Machine.{seen}
use Rattle.full_plot.proofs.Aside.{runs_aside}
use Rattle.full_plot.proofs.plotter.FullPlotter.ink_edges.Goals as goal

-- the buffer is put aside meanwhile
pub returns : goal.returns
returns c =
    let w = seen c.args.self.now in
    let put : c.replace-buffer.new.dest ≡ empty_buffer = c.replace-buffer.ensures.after ∙ c.new.ensures in
    let same : c.edges.result.now ≡ w.buffer.edges = c.edges.ensures ∙ ap (λ (b : Contents). b.edges) c.replace-buffer.ensures.value in
    rw c.replace-buffer.ensures.value
    (runs_aside w (seen c.ink_all-drawn.new.self) (Width 0) (map edge_span w.buffer.edges) c.ink_all-drawn.result (rw (put, same) at c.ink_all-drawn.ensures))
