use Rattle.std.proofs.Common.{[], ◌∷◌, length}
use Rattle.hpgl_text.specs.Cut.{cut}
use Rattle.plot_settings.specs.Meanings.{Load}
use Rattle.hpgl_plot.specs.Machine.{seen}
use Rattle.hpgl_plot.proofs.Ends.{Going}
use Rattle.hpgl_plot.proofs.drawn.draw_plot_with.Given as goal

abbrev pub invariant-items : goal.invariant-items
invariant-items l = Going l.page (Load l.carousel ∷ []) (cut l.fn.text) l.items (seen l.plotter) l.noted

abbrev pub decreases-items : goal.decreases-items
decreases-items l = length l.items
