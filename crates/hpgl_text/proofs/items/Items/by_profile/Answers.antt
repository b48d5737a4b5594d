use Rattle.hpgl_text.proofs.Lefts.{all_left}
use Rattle.hpgl_text.proofs.items.Items.by_profile.Goals as goal

pub returns : goal.returns
returns c = all_left c.args.profile c.args.plot.now
