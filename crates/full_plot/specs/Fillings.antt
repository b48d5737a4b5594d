-- What is set for fills is in its range.
use Rattle.full_settings.specs.FillParameters.{IsFillStyle}
use Rattle.hpgl_plot.specs.Bounds.{IsInRange}
use Rattle.plot_page.specs.declared.stroke.TheConstants.{FARTHEST_END}
use Rattle.full_plot.specs.declared.filling.Filling.{Filling}

pub record IsFilling (f : Filling) : Type 0 where
  pub fill_in : IsFillStyle f.fill
  pub anchor_in : IsInRange FARTHEST_END f.anchor
