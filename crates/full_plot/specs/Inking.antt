-- The width of a stroke of a fill is in its range.
use Rattle.std.specs.Prelude.{◌≤◌, ⊤}
use Rattle.plot_page.specs.declared.stroke.TheConstants.{GREATEST_WIDTH}
use Rattle.full_plot.specs.declared.fills.Ink.{Ink}
use Rattle.full_plot.specs.declared.fills.Ink.TheVariants.{Width, Line}

abbrev pub IsInk : Ink → Type 0
IsInk (Width width) = width ≤ GREATEST_WIDTH
IsInk Line = ⊤
