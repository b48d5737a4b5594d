use Rattle.std.proofs.Common.{◌≡◌, ◌<◌, ℕ, length, take, drop}
use Rattle.std.specs.Option.{option_or}
use Rattle.carousel.specs.Carousels.{colour_of, width_of}
use Rattle.pen_list.proofs.Given.{bad_in, given_by}
use Rattle.pen_list.specs.Assignments.{assignments, first_bad}
use Rattle.pen_list.specs.Colours.{colour_written}
use Rattle.pen_list.proofs.carousels.read_colours.Given as goal

-- the assignments so far were good, and gave their colours
abbrev pub invariant-loop-assignment : goal.invariant-loop-assignment
invariant-loop-assignment l = record {
  good : bad_in colour_written (drop (length l.yielded) (assignments l.text)) ≡ first_bad colour_written l.text;
  given : (pen : ℕ) → pen < 256 → colour_of l.read pen
      ≡ option_or (given_by colour_written (take (length l.yielded) (assignments l.text)) pen) (colour_of l.fn.carousel pen);
  kept : (pen : ℕ) → pen < 256 → width_of l.read pen ≡ width_of l.fn.carousel pen;
}
