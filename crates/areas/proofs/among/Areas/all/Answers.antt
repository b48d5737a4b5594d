use Rattle.areas.proofs.Apart.{counted_from_none}
use Rattle.areas.proofs.among.Areas.all.Goals as goal

pub returns : goal.returns
returns c = counted_from_none c.args.list.now
