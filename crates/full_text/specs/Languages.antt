-- Which language of a plot is read: HP-GL/2, or HP RTL, where only escapes and form feeds are.
use Rattle.std.specs.Prelude.{ℕ, Bool, true, false, ◌==◌, List, [], ◌∷◌, fold, Option, Some, None, unwrap_or, if◌then◌else◌}
use Rattle.hpgl_text.specs.Bytes.{escape as esc}
use Rattle.escapes.specs.Commands.{Said}
use Rattle.escapes.specs.Escapes.{escape}
use Rattle.raster_requests.specs.declared.place.Language.{Language}
use Rattle.raster_requests.specs.declared.place.Language.TheVariants.{Rtl, Hpgl2}
use Rattle.raster_requests.specs.declared.request.Request.{Request}
use Rattle.raster_requests.specs.declared.request.Request.TheVariants.{Enter, Start, Reset, Nothing}
use Rattle.raster_requests.specs.Requests.{request_of}

-- what the first command after an ESC asks
abbrev pub first_asked : Option (List Said × List ℕ) → Request
first_asked None = Nothing
first_asked (Some ([], rest)) = Nothing
first_asked (Some (command ∷ more, rest)) = request_of command

-- whether HP-GL/2 is entered by a request that enters a language or is a reset
abbrev pub entered_by : Request → Option Bool
entered_by (Enter Hpgl2 places) = Some true
entered_by (Enter Rtl places) = Some false
entered_by Reset = Some false
entered_by _ = None

-- the first of ESC E, UEL, and ESC % with A or B in the bytes of a text, data or not, is ESC % with B
abbrev pub has_instructions_next : List ℕ → Bool
has_instructions_next [] = false
has_instructions_next (b ∷ text) =
    if b == esc
    then unwrap_or (entered_by (first_asked (escape text))) (has_instructions_next text)
    else has_instructions_next text

-- the language after a request of an escape, by the bytes after the escape: a file may begin with instructions right after a
-- reset, so that leads to RTL only before ESC % B
abbrev pub language_by : List ℕ → Language → Request → Language
language_by rest language (Enter entered places) = entered
language_by rest language (Start corner) = Rtl
language_by rest language Reset = if has_instructions_next rest then Rtl else language
language_by rest language _ = language

-- the language after a command
abbrev pub language_then : List ℕ → Language → Said → Language
language_then rest language command = language_by rest language (request_of command)

-- the language after an escape, by its commands and the bytes after it
abbrev pub language_after : Language → List Said × List ℕ → Language
language_after language found = fold (language_then found.1) language found.0
