-- A plot whose items are carried out, and whose last image is closed.
use Rattle.std.proofs.Common.{◌≡◌, ◌∙◌, ap, sym, refl, ℕ, List, [], Result, Ok, Err}
use Rattle.hpgl_text.specs.Shapes.{ItemShape}
use Rattle.hpgl_plot.specs.declared.fault.PlotFault.{PlotFault}
use Rattle.raster_graphics.specs.declared.fault.Fault.{Fault}
use Rattle.raster_graphics.specs.declared.machine.Machine.{Machine}
use Rattle.raster_graphics.specs.Machines.{closed}
use Rattle.full_plot.specs.Commands.{gathered, with_machine}
use Rattle.full_plot.specs.Drawings.{finished, full_runs, image_closed}
use Rattle.full_plot.specs.Worlds.{FullWorld}

-- only what escapes make is another
only_graphics : (w u v : FullWorld) → v ≡ u → v ≡ record w { graphics = v.graphics } → u ≡ record w { graphics = u.graphics }
only_graphics w u v e h = sym e ∙ h ∙ ap (λ (x : FullWorld). record w { graphics = x.graphics }) e

closes : (w u : FullWorld) (at : ℕ) (r : Result Machine Fault) → image_closed w at r ≡ Ok u → u ≡ record w { graphics = u.graphics }
closes w u at (Ok m) h = let v : FullWorld = gathered (with_machine w m) in let e : v ≡ u = cc h in only_graphics w u v e refl
closes w u at (Err f) h = absurd (cc h)

pub finishes : (w u : FullWorld) (at : ℕ) → finished at (Ok w) ≡ Ok u → u ≡ record w { graphics = u.graphics }
finishes w u at h = closes w u at (closed w.graphics.machine) h

-- the outcome of a plot, of whose items none is left
pub finished_all : (r s : Result FullWorld PlotFault) (w : FullWorld) (items : List ItemShape) (at end : ℕ) → items ≡ [] → full_runs w items ≡ r
    → end ≡ at → finished end (Ok w) ≡ s → finished at r ≡ s
finished_all r s w items at end none same e h =
    ap (λ (n : ℕ). finished n r) (sym e) ∙ ap (finished end) (sym same ∙ ap (λ (is : List ItemShape). full_runs w is) none) ∙ h
