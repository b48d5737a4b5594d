use Rattle.full_font.proofs.Different.{differ, alike}
use Rattle.full_font.proofs.laws.characters_differ.Goals as goal

pub returns : goal.returns
returns c a b has_a has_b less = (differ a b has_a has_b less, alike a b)
