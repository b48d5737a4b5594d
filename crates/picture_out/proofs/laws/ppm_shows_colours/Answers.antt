use Rattle.picture_out.proofs.Shown.{colours_show}
use Rattle.picture_out.proofs.laws.ppm_shows_colours.Goals as goal

pub returns : goal.returns
returns c = λ row inks cells. colours_show inks cells
