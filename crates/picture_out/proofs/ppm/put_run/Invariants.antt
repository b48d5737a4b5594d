use Rattle.std.proofs.Common.{◌≡◌, ◌++◌, ◌*◌, take, drop, flat_map}
use Rattle.std.specs.List.{range_with_len}
use Rattle.picture_out.specs.Inks.{colour_bytes}
use Rattle.picture_out.proofs.ppm.put_run.Given as goal

-- the pixels so far, and then what `out` held before
abbrev pub invariant-loop-pixel : goal.invariant-loop-pixel
invariant-loop-pixel l = l.out ≡ flat_map (λ _. colour_bytes l.ink) (take l.pixel (range_with_len 0 l.count)) ++ drop (3 * l.pixel) l.fn.out
