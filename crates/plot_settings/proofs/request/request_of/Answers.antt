use Rattle.std.proofs.Common.{◌∙◌, ap}
use Rattle.plot_settings.specs.Meanings.{meaning}
use Rattle.plot_settings.proofs.Leading.{same_meaning}
use Rattle.plot_settings.proofs.request.request_of.Goals as goal

pub returns-in-None-clause-meaning : goal.returns-in-None-clause-meaning
returns-in-None-clause-meaning c =
    let i = c.args.instruction in
    c.request_by_first.ensures.meaning c.args.numbers.now ∙ ap (meaning i) c.leading-list.ensures.values ∙ same_meaning i c.in-None.ensures c.args.numbers.now
