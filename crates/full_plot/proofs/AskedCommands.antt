-- The commands of an escape, one after another.
use Rattle.std.proofs.Common.{◌≡◌, ◌∙◌, ◌<◌, ◌+◌, ap, sym, arith, ℕ, List, [], ◌∷◌, length, map, Option, Some, None}
use Rattle.std.specs.Prelude.{IfSome, MatchOption}
use Rattle.escapes.specs.Commands.{Said}
use Rattle.escapes.specs.declared.escape.Step.{Step}
use Rattle.escapes.specs.Views.{all_of, left, said}
use Rattle.raster_requests.specs.declared.request.Request.{Request}
use Rattle.raster_requests.specs.Requests.{request_of}
use Rattle.hpgl_plot.specs.declared.note.NoteKind.{NoteKind}
use Rattle.raster_graphics.specs.declared.fault.Answer.{Answer}
use Rattle.full_plot.specs.Commands.{Asked, after_request, asked_by, going_on, noted_with, obeyed_from}
use Rattle.full_plot.specs.Worlds.{FullWorld}

-- what the next command asks, and those after it
abbrev pub asked_next : Option Step → List Asked
asked_next None = []
asked_next (Some step) = map asked_by (all_of step).0

abbrev pub bytes_next : Option Step → ℕ
bytes_next None = 0
bytes_next (Some step) = length step.rest.now + 1

-- those after a command
pub asked_left : (step : Step) (next : Option Step)
    → MatchOption next (left step.more step.rest.now ≡ ([], step.rest.now)) (λ (n : Step). left step.more step.rest.now ≡ all_of n)
    → map asked_by (left step.more step.rest.now).0 ≡ asked_next next
asked_left step None h = ap (λ (l : List Said × List ℕ). map asked_by l.0) h
asked_left step (Some n) h = ap (λ (l : List Said × List ℕ). map asked_by l.0) h

pub bytes_left : (before next : Option Step) (step : Step) → before ≡ Some step
    → IfSome next (λ (n : Step). length n.rest.now < length step.rest.now) → bytes_next next < bytes_next before
bytes_left before None step e h = rw e (omega arith)
bytes_left before (Some n) step e h = rw e (omega (arith, h))

-- after the first of them
module _ (noted : Option NoteKind) (asked : Asked) (more : List Asked) (w : FullWorld) where
  pub one_obeyed : (v : FullWorld) (did : Answer) → after_request asked w ≡ Some (v, Some did)
      → obeyed_from noted (asked ∷ more) w ≡ obeyed_from (noted_with noted did) more v
  one_obeyed v did h = ap (going_on noted (λ (d : Answer) (u : FullWorld). obeyed_from (noted_with noted d) more u)) h

  pub one_stopped : after_request asked w ≡ None → obeyed_from noted (asked ∷ more) w ≡ None
  one_stopped h = ap (going_on noted (λ (d : Answer) (u : FullWorld). obeyed_from (noted_with noted d) more u)) h

  pub one_too_much : (v : FullWorld) → after_request asked w ≡ Some (v, None) → obeyed_from noted (asked ∷ more) w ≡ Some (v, noted)
  one_too_much v h = ap (going_on noted (λ (d : Answer) (u : FullWorld). obeyed_from (noted_with noted d) more u)) h

-- the first command of those that are left
pub first_asked : (noted : Option NoteKind) (next : Option Step) (step : Step) (request : Request) (w : FullWorld) → next ≡ Some step
    → request ≡ request_of (said step.command)
    → obeyed_from noted (asked_next next) w
    ≡ obeyed_from noted ((request, step.command.input.now) ∷ map asked_by (left step.more step.rest.now).0) w
first_asked noted next step request w e h =
    ap (λ (n : Option Step). obeyed_from noted (asked_next n) w) e
    ∙ ap (λ (r : Request). obeyed_from noted ((r, step.command.input.now) ∷ map asked_by (left step.more step.rest.now).0) w) (sym h)
