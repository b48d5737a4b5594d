use Rattle.std.proofs.Common.{refl}
use Rattle.pdf.proofs.AddedObjects.{added_more}
use Rattle.pdf.proofs.front.put_front.Goals as goal

pub returns : goal.returns
returns g c = record { adds = added_more c.put_object.ensures.adds c.put_info.ensures.adds refl }
