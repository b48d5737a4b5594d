use Rattle.std.proofs.Common.{◌≡◌, ◌≤◌, ◌-◌, true, drop, length, map}
use Rattle.stick_font.specs.Labels.{character_strokes}
use Rattle.hpgl_plot.specs.Paths.{stroke_places}
use Rattle.hpgl_plot.specs.Machine.{seen, travelled_all}
use Rattle.hpgl_plot.proofs.Travels.{IsKept}
use Rattle.hpgl_plot.proofs.plotter.Plotter.write_byte_by.Given as goal

-- the strokes that are left come to what all of them come to
abbrev pub invariant-strokes : goal.invariant-strokes
invariant-strokes l = record {
  kept : IsKept (seen l.fn.self) (seen l.self);
  within : l.k ≤ length (character_strokes l.cell l.byte);
  same : travelled_all (seen l.self) true (map (stroke_places l.fn.self.state) (drop l.k (character_strokes l.cell l.byte))) ≡ travelled_all (seen l.fn.self) true (map (stroke_places l.fn.self.state) (character_strokes l.cell l.byte));
}

abbrev pub decreases-strokes : goal.decreases-strokes
decreases-strokes l = length (character_strokes l.cell l.byte) - l.k
