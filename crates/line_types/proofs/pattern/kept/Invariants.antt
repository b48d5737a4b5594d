use Rattle.std.proofs.Common.{◌≡◌, take, length}
use Rattle.line_types.proofs.pattern.kept.Given as goal

abbrev pub invariant-loop-j : goal.invariant-loop-j
invariant-loop-j l = record { same : take l.j l.kept ≡ take l.j l.gaps; long : length l.kept ≡ 20 }
