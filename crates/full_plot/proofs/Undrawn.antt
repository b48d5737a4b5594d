-- In polygon mode no item makes a stroke.
use Rattle.std.proofs.Common.{◌≡◌, ◌∙◌, sym, refl, true, true≢false, subst, List, Some}
use Rattle.hpgl_text.specs.Shapes.{ItemShape}
use Rattle.full_notes.specs.Contexts.{read_in}
use Rattle.full_notes.specs.Notes.{context_after}
use Rattle.full_plot.specs.Items.{full_steps, taken}
use Rattle.full_plot.specs.Machine.{FullStep, run}
use Rattle.full_plot.specs.Worlds.{FullWorld}
use Rattle.full_plot.proofs.Changes.{In}
use Rattle.full_plot.proofs.FittingSteps.{all_fit}
use Rattle.full_plot.proofs.FullChanges.{Changes, are_fit, are_silent, run_holds}
use Rattle.full_plot.proofs.Traced.{read_silent}

-- the same strokes, and items are read in the same way
record IsSame (w v : FullWorld) : Type 0 where
  kept_are : v.core.kept ≡ w.core.kept
  context_is : v.context ≡ w.context

same_changes : Changes IsSame ⊥
same_changes = record {
  joined = λ w v u h k. record { kept_are = k.kept_are ∙ h.kept_are; context_is = k.context_is ∙ h.context_is };
  context_is = λ w v h. h.context_is;
  drawn = λ w s ss r m. absurd m;
  aside = λ w v c k e a g full b. record { kept_are = k; context_is = c };
  ended = λ w. record { kept_are = refl; context_is = refl };
  machine = λ w m. record { kept_are = refl; context_is = refl };
  gathers = λ w. record { kept_are = refl; context_is = refl };
  area = λ w rule off h. record { kept_are = h.kept_are; context_is = h.context_is };
}

silent_run : (ss : List FullStep) (w : FullWorld) → are_silent w.context.in_polygon ss ≡ true → are_fit w.context.in_polygon ss ≡ true
    → In (IsSame w) (run w ss)
silent_run ss w h fit = run_holds same_changes ss w (λ e. true≢false (sym h ∙ e)) fit

pub polygon_mode_is_silent : (w v : FullWorld) (i : ItemShape) → w.context.in_polygon ≡ true → taken w i.body ≡ Some v → v.core.kept ≡ w.core.kept
polygon_mode_is_silent w v i on e =
    let within : FullWorld = record w { context = context_after w.context i.body } in
    let same : IsSame within v =
    subst (In (IsSame within)) e
    (silent_run (full_steps w.context (read_in w.context i.body)) within (read_silent w.context i.body on) (all_fit w.context i.body)) in
    same.kept_are
