use Rattle.std.proofs.Common.{◌≡◌, ◌∙◌, ◌<◌, ℕ, List, Option, Some, None, Result, Ok, Err, IfOk, ap, refl}
use Rattle.std.specs.Option.{option_and_then, option_or}
use Rattle.clap.specs.Words.{Row, found_of, rows_of}
use Rattle.plot_page.specs.declared.colour.Colour.{Colour}
use Rattle.carousel.specs.Carousels.{colour_of, empty, width_of}
use Rattle.carousel.specs.declared.carousel.Carousel.{Carousel}
use Rattle.carousel.proofs.Empty.{empty_colour, empty_width}
use Rattle.pen_list.specs.Assignments.{given}
use Rattle.pen_list.specs.Colours.{colour_written}
use Rattle.pen_list.specs.Widths.{width_written}
use Rattle.command_line.specs.declared.fault.LineFault.{LineFault}
use Rattle.command_line.specs.Lines.{IsCarouselOf, colours_text, widths_text}
use Rattle.command_line.proofs.carousels.carousel_of.Goals as goal

abbrev colour_said : List Row → ℕ → Option Colour
colour_said rows pen = option_and_then (λ list. given colour_written list pen) (colours_text rows)

abbrev width_said : List Row → ℕ → Option ℕ
width_said rows pen = option_and_then (λ list. given width_written list pen) (widths_text rows)

or_nothing : {X : Type 0} (said before : Option X) → before ≡ None → option_or said before ≡ said
or_nothing None before none = none
or_nothing (Some x) before none = refl

-- the carousel whose widths are given after its colours
both : (rows : List Row) (coloured : Carousel) (r : Result Carousel LineFault)
    → ((pen : ℕ) → pen < 256 → colour_of coloured pen ≡ option_or (colour_said rows pen) (colour_of empty pen))
    → ((pen : ℕ) → pen < 256 → width_of coloured pen ≡ width_of empty pen)
    → IfOk r (λ read. (pen : ℕ) → pen < 256 → width_of read pen ≡ option_or (width_said rows pen) (width_of coloured pen))
    → IfOk r (λ read. (pen : ℕ) → pen < 256 → colour_of read pen ≡ colour_of coloured pen) → IfOk r (IsCarouselOf rows)
both rows coloured (Ok read) colours no_widths widths kept = record {
  colours = λ pen small. kept pen small ∙ colours pen small ∙ or_nothing _ _ (empty_colour pen);
  widths = λ pen small. widths pen small ∙ or_nothing _ _ (no_widths pen small ∙ empty_width pen);
}
both rows coloured (Err e) colours no_widths widths kept = tt

pub returns-clause-carousel : goal.returns-clause-carousel
returns-clause-carousel c =
    both (rows_of (found_of c.args.options.now)) c.in_ok-coloured.coloured c.widened.result
    (λ pen small. c.in_ok-coloured.ensures.colours pen small ∙ ap (λ (k : Carousel). option_or (colour_said (rows_of (found_of c.args.options.now)) pen) (colour_of k pen)) c.empty.ensures)
    (λ pen small. c.in_ok-coloured.ensures.widths pen small ∙ ap (λ (k : Carousel). width_of k pen) c.empty.ensures)
    c.widened.ensures.widths c.widened.ensures.colours
