-- IN and BP begin again.
use Rattle.std.proofs.Common.{◌≡◌, refl, ℤ, Bool, true, false, List, Some}
use Rattle.hpgl_text.specs.Shapes.{Params, Further}
use Rattle.hpgl_text.specs.declared.further.Further.TheVariants.{BeginPlot}
use Rattle.hpgl_text.specs.declared.instruction.Instruction.TheVariants.{Initialize}
use Rattle.hpgl_plot.specs.Machine.{step}
use Rattle.full_plot.specs.Items.{taken}
use Rattle.full_plot.specs.Laws.{InitializeRestarts, started_again}
use Rattle.full_plot.specs.Worlds.{FullWorld}

by_in : (in_polygon : Bool) (w : FullWorld) (ns : List ℤ) → w.context.in_polygon ≡ in_polygon → taken w (Params Initialize ns) ≡ Some (started_again w)
unfolding step
by_in true w ns on = rw on refl
by_in false w ns on = rw on refl

by_bp : (in_polygon : Bool) (w : FullWorld) (ns : List ℤ) → w.context.in_polygon ≡ in_polygon → taken w (Further BeginPlot ns) ≡ Some (started_again w)
unfolding step
by_bp true w ns on = rw on refl
by_bp false w ns on = rw on refl

pub restarts : InitializeRestarts
restarts w ns = (by_in w.context.in_polygon w ns refl, by_bp w.context.in_polygon w ns refl)
