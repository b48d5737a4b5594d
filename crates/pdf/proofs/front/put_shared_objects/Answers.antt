use Rattle.std.proofs.Common.{refl}
use Rattle.pdf.proofs.AddedObjects.{added_more}
use Rattle.pdf.proofs.front.put_shared_objects.Goals as goal

pub returns : goal.returns
returns g c = record { adds = added_more c.put_kids.ensures.adds c.put_list.ensures.adds refl }
