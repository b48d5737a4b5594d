-- That areas are apart has one proof at most, as the facts of types must.
use Rattle.std.specs.Coded.{le_prop, Unit-prop}
use Rattle.std.specs.Prelude.{ℕ, List, [], ◌∷◌}
use Rattle.areas.specs.declared.area.Area.{Area}
use Rattle.areas.specs.Shapes.{AreApart}

pub AreApart-prop : (at : ℕ) (areas : List Area) → IsProp (AreApart at areas)
AreApart-prop at [] = Unit-prop
AreApart-prop at (a ∷ more) = λ p q i. (le_prop p.0 q.0 i, le_prop p.1 q.1 i, AreApart-prop a.end more p.2 q.2 i)
