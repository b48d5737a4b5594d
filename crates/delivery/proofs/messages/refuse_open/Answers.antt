use Rattle.std.proofs.Common.{◌∷◌, [], refl}
use Rattle.delivery.proofs.messages.refuse_open.Goals as goal
use Rattle.delivery.specs.Deeds.{Deed}

pub returns-in-Below-clause-says : goal.returns-in-Below-clause-says
returns-in-Below-clause-says g c =
    (_, Deed.remarked _ ∷ [], (c.refuse-in-Below.new.self, c.refuse-in-Below.ensures, (c.remark.new.self, c.remark.ensures, refl)), tt)
