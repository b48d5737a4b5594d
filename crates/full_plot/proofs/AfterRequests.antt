-- The plotter after one request, by what the machine answers.
use Rattle.std.proofs.Common.{◌≡◌, ◌≢◌, ◌∙◌, ap, sym, ℕ, List, Option, Some, None, Result, Ok, Err}
use Rattle.std.specs.Prelude.{IfErr, option_map}
use Rattle.std.specs.Result.{IsErrAnd}
use Rattle.hpgl_plot.specs.declared.plotter.Stop.{Stop}
use Rattle.hpgl_plot.specs.declared.plotter.Stop.TheVariants as stop
use Rattle.raster_graphics.specs.declared.fault.Answer.{Answer}
use Rattle.raster_graphics.specs.declared.fault.Fault.{Fault}
use Rattle.raster_graphics.specs.declared.fault.Fault.TheVariants.{Memory, TooFar, TooMuch}
use Rattle.raster_graphics.specs.declared.machine.Machine.{Machine}
use Rattle.raster_graphics.specs.Machines.{Step, obeyed}
use Rattle.raster_requests.specs.declared.request.Request.{Request}
use Rattle.full_plot.specs.Commands.{after_request, after_step, gathered, overfull, then_asked, with_machine}
use Rattle.full_plot.specs.Machine.{Runs}
use Rattle.full_plot.specs.Worlds.{FullWorld, Graphics}

module _ (request : Request) (input : List ℕ) (w : FullWorld) where
  -- what follows an answer
  pub after_answer : (m : Machine) (did : Answer) (o : Option FullWorld) → obeyed request input w.graphics.machine ≡ Ok (m, did)
      → then_asked request (gathered (with_machine w m)) ≡ o → after_request (request, input) w ≡ option_map (λ (v : FullWorld). (v, Some did)) o
  unfolding after_request
  after_answer m did o h k = ap (λ (s : Step). after_step request w s) h ∙ ap (option_map (λ (v : FullWorld). (v, Some did))) k

  pub after_far : obeyed request input w.graphics.machine ≡ Err TooFar → after_request (request, input) w ≡ None
  unfolding after_request
  after_far h = ap (λ (s : Step). after_step request w s) h

  pub after_much : obeyed request input w.graphics.machine ≡ Err TooMuch → after_request (request, input) w ≡ Some (overfull w, None)
  unfolding after_request
  after_much h = ap (λ (s : Step). after_step request w s) h

-- what stops a call stops its caller
pub stopped_by : {U : Type 0} (V : Type 0) (o : Option FullWorld) (v : FullWorld) (e : Stop) (r : Result U Stop) (P : Type 0) → (o ≡ None → P)
    → Runs {U = V} o v (Err e) → IsErrAnd r (λ f. f ≡ e) → IfErr r (λ (e : Stop). e ≡ stop.OffRange → P)
stopped_by V o v e (Ok x) P n h i = tt
stopped_by V o v stop.Memory (Err f) P n h i = λ (k : f ≡ stop.OffRange). absurd (cc)
stopped_by V o v stop.OffRange (Err f) P n h i = λ (k : f ≡ stop.OffRange). n h

pub the_same : (w v : FullWorld) → Some w ≡ Some v → w ≡ v
the_same w v h = ap (λ (o : Option FullWorld). elim o [ None ↦ w | Some u ↦ u ]) h

-- the machine alone is another
pub machine_gathered : (w v : FullWorld) (g : Graphics) → g ≡ record w.graphics { machine = g.machine } → Some (gathered (record w { graphics = g })) ≡ Some v
    → gathered (with_machine w g.machine) ≡ v
machine_gathered w v g e h =
    ap (λ (f : Graphics). gathered (record w { graphics = f })) (sym e) ∙ the_same (gathered (record w { graphics = g })) v h

-- a fault that is not of memory
pub far_by : (f : Fault) (s : Step) → f ≡ TooFar → (f ≢ Memory → s ≡ Err f) → s ≡ Err TooFar
far_by f s e h = h (λ (k : f ≡ Memory). absurd (cc)) ∙ ap (λ (g : Fault). Err g) e

pub much_by : (f : Fault) (s : Step) → f ≡ TooMuch → (f ≢ Memory → s ≡ Err f) → s ≡ Err TooMuch
much_by f s e h = h (λ (k : f ≡ Memory). absurd (cc)) ∙ ap (λ (g : Fault). Err g) e
