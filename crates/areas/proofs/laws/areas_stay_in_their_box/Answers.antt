use Rattle.areas.proofs.Boxes.{areas_stay_in_their_box_lem}
use Rattle.areas.proofs.laws.areas_stay_in_their_box.Goals as goal

pub returns : goal.returns
returns c = areas_stay_in_their_box_lem
