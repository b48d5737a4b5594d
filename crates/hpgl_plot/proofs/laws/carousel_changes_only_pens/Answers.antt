use Rattle.hpgl_plot.proofs.ByCarousel.{only_pens}
use Rattle.hpgl_plot.proofs.laws.carousel_changes_only_pens.Goals as goal

pub returns : goal.returns
returns c = only_pens
