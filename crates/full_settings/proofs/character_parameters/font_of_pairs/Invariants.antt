use Rattle.std.proofs.Common.{◌≡◌, length}
use Rattle.full_settings.specs.CharacterParameters.{no_font, with_pairs, IsFontSetting}
use Rattle.full_settings.proofs.character_parameters.font_of_pairs.Given as goal

-- the pairs that are left come to what all pairs do
abbrev pub invariant-pairs : goal.invariant-pairs
invariant-pairs l = record {
  same : with_pairs l.setting l.rest ≡ with_pairs no_font l.fn.numbers;
  sound : IsFontSetting l.setting;
}

abbrev pub decreases-pairs : goal.decreases-pairs
decreases-pairs l = length l.rest
