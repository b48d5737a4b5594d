-- What a subcommand does unless its options say otherwise, beside the defaults of its options.
use Rattle.std.specs.Prelude.{ℕ, Bool, true, false}
use Rattle.command_line.specs.declared.subcommands.Kind.{Kind}
use Rattle.command_line.specs.declared.subcommands.Kind.TheVariants.{Draw, Write}

pub record Defaults : Type 0 where
  -- dots per inch
  pub dots : ℕ
  -- how much finer a picture that may be smoothed is painted, at most
  pub smoothing : ℕ
  -- what is left free around the drawing on a fitted page, in millimetres
  pub margin : ℕ
  -- if no page is given, the page that the plot asks for is fitted to the drawing
  pub fits : Bool
  -- a person waits for the picture: progress is shown, and it is said if little or nothing is drawn
  pub interactive : Bool

-- those of draw
abbrev pub of_draw : Defaults
of_draw = record {
  dots = 150;
  smoothing = 4;
  margin = 5;
  fits = true;
  interactive = true;
}

-- those of the other subcommands
abbrev pub of_others : Defaults
of_others = record {
  dots = 100;
  smoothing = 1;
  margin = 1;
  fits = false;
  interactive = false;
}

abbrev pub defaults_of : Kind → Defaults
defaults_of (Draw destination) = of_draw
defaults_of (Write _) = of_others
