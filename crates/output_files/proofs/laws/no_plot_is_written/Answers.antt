use Rattle.output_files.specs.Claims.{is_claimed, is_plot}
use Rattle.output_files.proofs.WrittenLaw.{no_plots}
use Rattle.output_files.proofs.laws.no_plot_is_written.Goals as goal

pub returns : goal.returns
returns c = λ files. no_plots (is_plot c.args.claims.now) (is_claimed c.args.claims.now) files
