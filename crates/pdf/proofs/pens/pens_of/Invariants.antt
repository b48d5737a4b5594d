use Rattle.std.proofs.Common.{◌≡◌, ◌<◌, ℕ, take}
use Rattle.plot_page.specs.Pens.{has_pen}
use Rattle.pdf.specs.Documents.{has_drawn}
use Rattle.pdf.proofs.pens.pens_of.Given as goal

-- the pens of the strokes so far
abbrev pub invariant-loop-stroke : goal.invariant-loop-stroke
invariant-loop-stroke l = (pen : ℕ) → pen < 256 → has_pen l.drawn pen ≡ has_drawn l.pens (take l.stroke-index l.strokes) pen
