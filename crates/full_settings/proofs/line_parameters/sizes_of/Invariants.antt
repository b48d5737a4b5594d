use Rattle.std.proofs.Common.{◌≡◌, take, map, nat_abs, length}
use Rattle.full_settings.proofs.line_parameters.sizes_of.Given as goal

abbrev pub invariant-loop-j : goal.invariant-loop-j
invariant-loop-j l = record { same : take l.j l.sizes ≡ map nat_abs (take l.j l.gaps); long : length l.sizes ≡ 20 }
