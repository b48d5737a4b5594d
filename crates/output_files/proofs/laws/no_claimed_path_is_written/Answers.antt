use Rattle.output_files.specs.Claims.{is_claimed, is_plot}
use Rattle.output_files.proofs.WrittenLaw.{fresh_paths}
use Rattle.output_files.proofs.laws.no_claimed_path_is_written.Goals as goal

pub returns : goal.returns
returns c = λ files. fresh_paths (is_plot c.args.claims.now) (is_claimed c.args.claims.now) files
