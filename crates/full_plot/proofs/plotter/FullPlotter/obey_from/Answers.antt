use Rattle.std.proofs.Common.{◌≡◌, ◌∙◌, ap, sym, List, map, Option, Some}
use Rattle.escapes.specs.Views.{left}
use Rattle.hpgl_plot.specs.declared.note.NoteKind.{NoteKind}
use Rattle.raster_graphics.specs.declared.fault.Answer.{Answer}
use Rattle.full_plot.specs.Commands.{Asked, after_request, asked_by, noted_with, obeyed_from}
use Rattle.full_plot.specs.Machine.{seen}
use Rattle.full_plot.proofs.AskedCommands.{asked_left, asked_next, bytes_left, first_asked, one_obeyed}
use Rattle.full_plot.proofs.plotter.FullPlotter.obey_from.Goals as goal

pub commands-smaller : goal.commands-smaller
commands-smaller c = bytes_left c.commands.next c.following-next.result c.in-Some.step c.in-Some.is c.following-next.ensures.shorter

pub commands-preserved : goal.commands-preserved
commands-preserved c =
    let w = seen c.commands.self in
    let v = seen c.obey_request.new.self in
    let noted = c.commands.noted in
    let next = c.following-next.result in
    let step = c.in-Some.step in
    let asked : Asked = (c.of-request.result, step.command.input.now) in
    let more : List Asked = map asked_by (left step.more step.rest.now).0 in
    let done : after_request asked w ≡ Some (v, Some c.in-Some-2.answer) =
    c.in_ok-answer.ensures.done ∙ ap (λ (d : Option Answer). Some (v, d)) c.in-Some-2.is in
    ap (λ (n : Option NoteKind). obeyed_from n (asked_next next) v) c.noted_with-noted.ensures
    ∙ ap (λ (list : List Asked). obeyed_from (noted_with noted c.in-Some-2.answer) list v) (sym (asked_left step next c.following-next.ensures.value))
    ∙ sym (one_obeyed noted asked more w v c.in-Some-2.answer done)
    ∙ sym (first_asked noted c.commands.next step c.of-request.result w c.in-Some.is c.of-request.ensures.value)
    ∙ c.commands.invariant
