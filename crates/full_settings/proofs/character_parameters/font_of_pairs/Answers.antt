use Rattle.std.proofs.Common.{◌≡◌, ◌∙◌, sym, ap, arith, ℤ, List, ◌∷◌, Some, option_and_then, FitsSigned}
use mir.Syntax.{w64}
use Rattle.std.proofs.lemmas.Int.{ints, to_z-of_z}
use Rattle.plot_settings.specs.Parameters.{whole_of}
use Rattle.full_settings.specs.CharacterParameters.{with_kind, with_pairs}
use Rattle.full_settings.specs.declared.character_setting.FontSetting.{FontSetting}
use Rattle.full_settings.proofs.character_parameters.font_of_pairs.Goals as goal

-- a kind and a value, and what they make of what was named before
pub pairs-preserved : goal.pairs-preserved
pairs-preserved c =
    let s = c.pairs.setting in
    let rest = c.next-in-Some.new.self in
    let fits : FitsSigned w64 c.whole_number.result = omega (arith, ints, c.whole_number.ensures.bound) in
    let made : with_kind (whole_of c.in-Some.kind) c.in_ok-value.value s ≡ Some c.in_ok-setting.setting =
    sym (simp to_z-of_z at c.in_ok-setting.ensures.value ∙ ap (λ (k : ℤ). with_kind k c.in_ok-value.value s) c.whole_number.ensures.value) in
    record {
      same = sym (
          ap (λ (ns : List ℤ). with_pairs s ns) (c.in-Some.ensures.steps ∙ ap (λ (ns : List ℤ). c.in-Some.kind ∷ ns) c.in_ok-value.ensures.steps)
          ∙ ap (option_and_then (λ (g : FontSetting). with_pairs g rest)) made)
          ∙ c.pairs.invariant.same;
      sound = c.in_ok-setting.ensures.sound;
    }
