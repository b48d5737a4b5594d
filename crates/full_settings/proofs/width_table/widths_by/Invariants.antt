use Rattle.std.proofs.Common.{◌≡◌, take, length}
use Rattle.full_settings.specs.Widths.{widths_by}
use Rattle.full_settings.proofs.width_table.widths_by.Given as goal

-- the widths of the pens so far are set
abbrev pub invariant-loop-pen : goal.invariant-loop-pen
invariant-loop-pen l = record {
  same : l.all ≡ widths_by l.fn.diagonal (take l.pen l.percents) l.fn.widths;
  long : length l.all ≡ 256;
}
