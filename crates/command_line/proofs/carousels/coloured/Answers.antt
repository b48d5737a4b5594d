use Rattle.std.proofs.Common.{◌≡◌, ◌∙◌, ℕ, Option, None, ap, codes, sym}
use Rattle.std.specs.Option.{option_and_then, option_or}
use Rattle.std.specs.Prelude.{option_map}
use Rattle.clap.specs.Words.{Text, found_of}
use Rattle.clap.proofs.WalkLemmas.{first_value-rows}
use Rattle.plot_page.specs.declared.colour.Colour.{Colour}
use Rattle.carousel.specs.Carousels.{colour_of}
use Rattle.pen_list.specs.Assignments.{first_bad, given}
use Rattle.pen_list.specs.Colours.{colour_written}
use Rattle.command_line.specs.Faults.{BadColours, Refusal}
use Rattle.command_line.proofs.carousels.coloured.Goals as goal

-- the colour that a list may give a pen
abbrev from_list : Option Text → ℕ → Option Colour
from_list list pen = option_and_then (λ text. given colour_written text pen) list

-- its first bad item
abbrev bad_in : Option Text → Option Refusal
bad_in list = option_map BadColours (option_and_then (first_bad colour_written) list)

no_list : (list : Option Text) (before : Option Colour) (pen : ℕ) → None ≡ list → before ≡ option_or (from_list list pen) before
no_list list before pen none = ap (λ (o : Option Text). option_or (from_list o pen) before) none

pub returns-in_default-clause-colours : goal.returns-in_default-clause-colours
returns-in_default-clause-colours c = λ pen small. no_list _ _ pen (c.in_default.ensures ∙ first_value-rows (found_of c.args.options.now) (codes "colours"))

pub returns-in_default-clause-refused : goal.returns-in_default-clause-refused
returns-in_default-clause-refused c = ap bad_in (c.in_default.ensures ∙ first_value-rows (found_of c.args.options.now) (codes "colours"))

pub returns-in-Ok-clause-colours : goal.returns-in-Ok-clause-colours
returns-in-Ok-clause-colours c = λ pen small.
    c.in-Ok.ensures.colours pen small
    ∙ ap (λ (o : Option Text). option_or (from_list o pen) (colour_of c.args.carousel pen)) (c.in-Some.ensures ∙ first_value-rows (found_of c.args.options.now) (codes "colours"))

pub returns-in-Ok-clause-refused : goal.returns-in-Ok-clause-refused
returns-in-Ok-clause-refused c =
    sym (ap (option_map BadColours) c.in-Ok.ensures.bad) ∙ ap bad_in (c.in-Some.ensures ∙ first_value-rows (found_of c.args.options.now) (codes "colours"))

pub returns-in-Err-clause-refused : goal.returns-in-Err-clause-refused
returns-in-Err-clause-refused c =
    sym (ap (option_map BadColours) c.in-Err.ensures.bad) ∙ ap bad_in (c.in-Some.ensures ∙ first_value-rows (found_of c.args.options.now) (codes "colours"))
