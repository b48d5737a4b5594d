-- The first two numbers of an instruction, as a reader finds them one after another.
use Rattle.std.specs.Prelude.{ℕ, ℤ, List, Option, Some, None, fold}
use Rattle.page_fit.specs.Around.{Sides, checked}
use Rattle.plot_page.specs.declared.page.Page.{Page}
use Rattle.plot_size.specs.Sizes.{resized, units}

-- with one number more, in plotter units
abbrev pub with_units : Option (ℕ × Option ℕ) → ℕ → Option (ℕ × Option ℕ)
with_units None more = Some (more, None)
with_units (Some (width, None)) more = Some (width, Some more)
with_units (Some (width, Some height)) more = Some (width, Some height)

-- the same from millionths
abbrev pub with_number : Option (ℕ × Option ℕ) → ℤ → Option (ℕ × Option ℕ)
with_number found number = with_units found (units number)

-- the first two of these numbers, in plotter units
abbrev pub measured : List ℤ → Option (ℕ × Option ℕ)
measured ns = fold with_number None ns

-- the page that they ask for
abbrev pub sides_measured : ℕ → Page → Option (ℕ × Option ℕ) → Option Sides
sides_measured longest page None = None
sides_measured longest page (Some (width, None)) = checked longest (resized page width page.height)
sides_measured longest page (Some (width, Some height)) = checked longest (resized page width height)
