use Rattle.std.proofs.Common.{◌∙◌, take, subst, sym, length-set, ℕ, List}
use Rattle.plot_settings.specs.Bounds.{AreWidths}
use Rattle.full_settings.proofs.WidthTables.{within, one_more_width}
use Rattle.full_settings.proofs.width_table.widths_by.Goals as goal

pub returns-clause-sound : goal.returns-clause-sound
returns-clause-sound c =
    subst (λ (ws : List ℕ). AreWidths ws) (sym c.loop-pen.invariant.same)
    (within c.args.diagonal (take c.loop-pen.pen c.args.percents.now) c.args.widths.now c.requires.sound)

pub loop-pen-preserved : goal.loop-pen-preserved
loop-pen-preserved c = record {
  same = one_more_width c.args.diagonal c.args.percents.now c.args.widths.now c.loop-pen.all c.loop-pen.pen c.width_by.result
      c.loop-pen-test.true c.told-percents c.told-widths c.loop-pen.invariant.same c.width_by.ensures;
  long = length-set c.loop-pen.all c.loop-pen.pen c.width_by.result ∙ c.loop-pen.invariant.long;
}
