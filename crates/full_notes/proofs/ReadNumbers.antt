-- The numbers of CI, AA and AR that are read, with their chord or without it.
use Rattle.std.proofs.Common.{◌≡◌, ◌∙◌, ℕ, ℤ, Bool, true, false, List, [], take, ◌∷◌, refl, ap, arith, min}
use Rattle.std.specs.Prelude.{if◌then◌else◌}
use Rattle.hpgl_text.specs.declared.instruction.Instruction.TheVariants as of
use Rattle.plot_settings.specs.Parameters.{arced, circled}
use Rattle.full_settings.proofs.FirstNumbers.{first_of_leading}
use Rattle.full_notes.specs.Contexts.{params_read}

-- numbers after the chord are not read
first_circle : (ns : List ℤ) → circled (take 7 ns) ≡ circled ns
first_circle [] = refl
first_circle (r ∷ []) = refl
first_circle (r ∷ (c ∷ ns)) = refl

first_arc : (ns : List ℤ) → arced (take 7 ns) ≡ arced ns
first_arc [] = refl
first_arc (x ∷ []) = refl
first_arc (x ∷ (y ∷ [])) = refl
first_arc (x ∷ (y ∷ (s ∷ []))) = refl
first_arc (x ∷ (y ∷ (s ∷ (c ∷ ns)))) = refl

pub circle_numbers : (usual : Bool) (count : ℕ) (list ns : List ℤ) → take count list ≡ take 7 ns
    → circled (take (if usual then min count 1 else count) list) ≡ circled (params_read usual of.Circle ns)
circle_numbers true count list ns e = ap circled (first_of_leading count 1 list ns (omega arith) e)
circle_numbers false count list ns e = ap circled e ∙ first_circle ns

pub arc_numbers : (usual : Bool) (count : ℕ) (list ns : List ℤ) → take count list ≡ take 7 ns
    → arced (take (if usual then min count 3 else count) list) ≡ arced (params_read usual of.ArcAbsolute ns)
arc_numbers true count list ns e = ap arced (first_of_leading count 3 list ns (omega arith) e)
arc_numbers false count list ns e = ap arced e ∙ first_arc ns
