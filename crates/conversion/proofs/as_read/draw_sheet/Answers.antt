use Rattle.std.proofs.Common.{List, subst, sym}
use Rattle.areas.specs.Shapes.{AreApart}
use Rattle.areas.specs.declared.area.Area.{Area}
use Rattle.conversion.proofs.SheetAreas.{sheet_apart}
use Rattle.conversion.proofs.as_read.draw_sheet.Goals as goal

pub invariant_of-result-clause-apart : goal.invariant_of-result-clause-apart
invariant_of-result-clause-apart c =
    subst (λ (zs : List Area). AreApart 0 zs) (sym c.keep_areas_of.ensures) (sheet_apart _ _ _ _ c.in_ok-drawn.ensures.apart)
