use Rattle.output_files.proofs.Sets.{one_more_file}
use Rattle.output_files.proofs.claims.Claims.add_plot.Goals as goal

pub returns-in-Ok-clause-added : goal.returns-in-Ok-clause-added
returns-in-Ok-clause-added c = λ file.
    one_more_file file c.args.plot c.args.self.now.plots c.insert.new.self c.in-Ok.ensures.updates
