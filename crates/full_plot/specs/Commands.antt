-- What the commands of escapes do: the images of HP RTL, the places that are carried over, and the ends of sheets.
use Rattle.std.specs.Prelude.{ℕ, true, List, [], ◌∷◌, ◌++◌, length, map, Option, Some, None, option_map, Ok, Err}
use Rattle.exact.specs.declared.spot.Spot.{Spot}
use Rattle.escapes.specs.Commands.{Said}
use Rattle.escapes.specs.Escapes.{escape}
use Rattle.hpgl_plot.specs.declared.note.NoteKind.{NoteKind}
use Rattle.hpgl_plot.specs.declared.note.NoteKind.TheVariants as note
use Rattle.hpgl_plot.specs.Paths.{pen_placed}
use Rattle.page_images.specs.PageImages.{page_image}
use Rattle.plot_page.specs.declared.page.Page.{Page}
use Rattle.raster_graphics.specs.declared.fault.Answer.{Answer}
use Rattle.raster_graphics.specs.declared.fault.Answer.TheVariants as answer
use Rattle.raster_graphics.specs.declared.fault.Fault.TheVariants.{TooFar, TooMuch, Memory}
use Rattle.raster_graphics.specs.declared.image.Image.{Image}
use Rattle.raster_graphics.specs.declared.machine.Machine.{Machine}
use Rattle.raster_graphics.specs.declared.place.Place.{Place}
use Rattle.raster_graphics.specs.Machines.{Step, obeyed, start}
use Rattle.raster_requests.specs.declared.place.Language.{Language}
use Rattle.raster_requests.specs.declared.place.Language.TheVariants.{Rtl, Hpgl2}
use Rattle.raster_requests.specs.declared.place.Places.TheVariants.{Carried}
use Rattle.raster_requests.specs.declared.request.Request.{Request}
use Rattle.raster_requests.specs.declared.request.Request.TheVariants.{Enter, EndPage}
use Rattle.raster_requests.specs.Requests.{request_of}
use Rattle.full_plot.specs.Curves.{arrived, if_in_range}
use Rattle.full_plot.specs.Sheets.{sheet_ended}
use Rattle.full_plot.specs.Worlds.{FullWorld, Graphics}

-- another machine, with its images
abbrev pub with_machine : FullWorld → Machine → FullWorld
with_machine w m = record w { graphics = record w.graphics { machine = m } }

-- its images that are done are taken out: they are drawn on the page, after so many strokes
abbrev pub gathered_on : Page → ℕ → Graphics → Graphics
gathered_on page count g = record g {
  machine = record g.machine { images = [] };
  images = g.images ++ map (λ (i : Image). page_image page i count) g.machine.images;
}

abbrev pub gathered : FullWorld → FullWorld
gathered w = record w { graphics = gathered_on w.core.page (length w.core.kept) w.graphics }

-- the next image begins where the pen is
abbrev pub placed_at : Spot → Machine → Machine
placed_at q m = record m { place = record { x = q.x; y = q.y } }

abbrev pub at_pen : FullWorld → Option FullWorld
at_pen w =
    let q = w.core.state.place in
    if_in_range w.core.range (q ∷ []) (Some (with_machine w (placed_at q w.graphics.machine)))

-- the pen, with its coordinates recomputed, and the left margin are where the next image begins
abbrev pub spot_of : Place → Spot
spot_of p = record { x = p.x; y = p.y }

abbrev pub at_image : FullWorld → Option FullWorld
at_image w =
    let q = spot_of w.graphics.machine.place in
    if_in_range w.core.range (q ∷ []) (Some (arrived (pen_placed w.core.page w.core.state.frame q) w))

-- a language is entered, and takes over the place of the other
abbrev pub carried : Language → FullWorld → Option FullWorld
carried Rtl w = at_pen w
carried Hpgl2 w = at_image w

-- what a request asks besides images
abbrev pub then_asked : Request → FullWorld → Option FullWorld
then_asked (Enter language Carried) w = carried language w
then_asked EndPage w = Some (sheet_ended w)
then_asked _ w = Some w

-- images with too many dots are as too many strokes, and nothing is left of the machine
abbrev pub overfull : FullWorld → FullWorld
overfull w = with_machine (record w { core = record w.core { full = true } }) start

-- a request with its data
abbrev pub Asked : Type 0
Asked = Request × List ℕ

-- after a request: images that are done are gathered, and what it asks besides follows. One that leads out of range stops
-- the plotter. What a command did is none after too many dots
abbrev pub after_step : Request → FullWorld → Step → Option (FullWorld × Option Answer)
after_step request w (Ok (m, did)) =
    option_map (λ (v : FullWorld). (v, Some did)) (then_asked request (gathered (with_machine w m)))
after_step request w (Err TooFar) = None
after_step request w (Err TooMuch) = Some (overfull w, None)
after_step request w (Err Memory) = None

unfoldable pub after_request : Asked → FullWorld → Option (FullWorld × Option Answer)
after_request asked w = after_step asked.0 w (obeyed asked.0 asked.1 w.graphics.machine)

-- one note an escape: that a command is bad, or else that one is skipped
abbrev pub noted_with : Option NoteKind → Answer → Option NoteKind
noted_with noted answer.Bad = Some note.Bad
noted_with noted answer.Done = noted
noted_with None answer.Skipped = Some note.Skipped
noted_with (Some kind) answer.Skipped = Some kind

-- what is left of a plotter, and what is to be noted
abbrev pub Left : Type 0
Left = Option (FullWorld × Option NoteKind)

-- after too many dots nothing more is done
abbrev pub going_on : Option NoteKind → (Answer → FullWorld → Left) → Option (FullWorld × Option Answer) → Left
going_on noted go None = None
going_on noted go (Some (w, None)) = Some (w, noted)
going_on noted go (Some (w, Some did)) = go did w

-- requests are obeyed one after another, and noted with what was noted before
abbrev pub obeyed_from : Option NoteKind → List Asked → FullWorld → Left
obeyed_from noted [] w = Some (w, noted)
obeyed_from noted (asked ∷ more) w =
    going_on noted (λ (did : Answer) (v : FullWorld). obeyed_from (noted_with noted did) more v) (after_request asked w)

-- what the plotter is after them, and what is noted on them
abbrev pub obeyed_all : List Asked → FullWorld → Option FullWorld
obeyed_all asked w = option_map (λ (left : FullWorld × Option NoteKind). left.0) (obeyed_from None asked w)

abbrev pub noted_in : Left → Option NoteKind
noted_in None = None
noted_in (Some left) = left.1

abbrev pub noted_on : List Asked → FullWorld → Option NoteKind
noted_on asked w = noted_in (obeyed_from None asked w)

-- what the commands of an escape ask, by its bytes after the ESC
abbrev pub asked_by : Said → Asked
asked_by command = (request_of command, command.input)

abbrev pub asked_in : Option (List Said × List ℕ) → List Asked
asked_in None = []
asked_in (Some found) = map asked_by found.0

abbrev pub asked_of : List ℕ → List Asked
asked_of taken = asked_in (escape taken)

-- a form feed of HP RTL asks for the end of the page
abbrev pub page_end : List Asked
page_end = (EndPage, []) ∷ []
