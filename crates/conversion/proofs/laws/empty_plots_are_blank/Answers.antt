use Rattle.std.proofs.Common.{refl}
use Rattle.conversion.proofs.laws.empty_plots_are_blank.Goals as goal

pub returns : goal.returns
returns c = λ job reaches. refl
