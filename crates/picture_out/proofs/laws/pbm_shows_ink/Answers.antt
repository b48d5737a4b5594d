use Rattle.picture_out.proofs.Shown.{bits_show}
use Rattle.picture_out.proofs.laws.pbm_shows_ink.Goals as goal

pub returns : goal.returns
returns c = λ row inks cells. bits_show cells
