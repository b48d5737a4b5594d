use Rattle.output_files.specs.Claims.{is_claimed, is_plot}
use Rattle.output_files.proofs.WrittenLaw.{distinct_paths}
use Rattle.output_files.proofs.laws.no_path_is_written_twice.Goals as goal

pub returns : goal.returns
returns c = λ files. distinct_paths (is_plot c.args.claims.now) (is_claimed c.args.claims.now) files
