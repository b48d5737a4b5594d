-- Directions along no axis, which are noted.
use Rattle.std.specs.Prelude.{ℤ, pos, Bool, false, not, ◌&&◌, List, ◌∷◌}
use Rattle.std.specs.Ordering.{int_eq}
use Rattle.hpgl_text.specs.declared.instruction.Instruction.{Instruction}
use Rattle.hpgl_text.specs.declared.instruction.Instruction.TheVariants.{Direction}

-- the run and the rise of a DI (Absolute Direction) are both not 0
abbrev pub is_slanted : List ℤ → Bool
is_slanted (x ∷ (y ∷ ns)) = not (int_eq x (pos 0)) && not (int_eq y (pos 0))
is_slanted _ = false

-- whether the instruction sets a direction along no axis
abbrev pub is_off_axis : Instruction → List ℤ → Bool
is_off_axis Direction ns = is_slanted ns
is_off_axis _ ns = false
