-- The context after an instruction.
use Rattle.hpgl_text.specs.declared.instruction.Instruction.{Instruction}
use Rattle.full_settings.specs.declared.requests.FurtherRequest.{FurtherRequest}
use Rattle.full_notes.specs.Notes.{params_after, request_after}
use Rattle.full_plot.specs.Worlds.{FullWorld}

-- after what a further instruction asks for, or after an instruction of core
abbrev pub after_request : FurtherRequest → FullWorld → FullWorld
after_request r w = record w { context = request_after w.context r }

abbrev pub after_params : Instruction → FullWorld → FullWorld
after_params i w = record w { context = params_after w.context i }
