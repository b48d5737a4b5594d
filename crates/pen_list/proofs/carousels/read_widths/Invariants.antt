use Rattle.std.proofs.Common.{◌≡◌, ◌<◌, ℕ, length, take, drop}
use Rattle.std.specs.Option.{option_or}
use Rattle.carousel.specs.Carousels.{colour_of, width_of}
use Rattle.pen_list.proofs.Given.{bad_in, given_by}
use Rattle.pen_list.specs.Assignments.{assignments, first_bad}
use Rattle.pen_list.specs.Widths.{width_written}
use Rattle.pen_list.proofs.carousels.read_widths.Given as goal

-- the assignments so far were good, and gave their widths
abbrev pub invariant-loop-assignment : goal.invariant-loop-assignment
invariant-loop-assignment l = record {
  good : bad_in width_written (drop (length l.yielded) (assignments l.text)) ≡ first_bad width_written l.text;
  given : (pen : ℕ) → pen < 256 → width_of l.read pen
      ≡ option_or (given_by width_written (take (length l.yielded) (assignments l.text)) pen) (width_of l.fn.carousel pen);
  kept : (pen : ℕ) → pen < 256 → colour_of l.read pen ≡ colour_of l.fn.carousel pen;
}
