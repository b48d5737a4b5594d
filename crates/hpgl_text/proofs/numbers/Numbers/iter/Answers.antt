use Rattle.std.proofs.Common.{All, subst, List, ℤ}
use Rattle.hpgl_text.specs.Bounds.{IsNumber}
use Rattle.hpgl_text.proofs.ParameterLists.{all_small}
use Rattle.hpgl_text.proofs.numbers.Numbers.iter.Goals as goal

pub returns-clause-small : goal.returns-clause-small
returns-clause-small c = subst (λ (zs : List ℤ). All IsNumber zs) c.self.view_is (all_small c.self.inside.text.now)
