use Rattle.std.proofs.Common.{◌+◌, ◌≡◌, length, arith}
use Rattle.devices.specs.Sinks.{taken_of}
use Rattle.devices.proofs.KnownBytes.{cut_second}
use Rattle.picture_out.proofs.pieces.put_both.Goals as goal

pub returns-in-Err-clause-writes : goal.returns-in-Err-clause-writes
returns-in-Err-clause-writes g c =
    let moved : taken_of c.after.result ≡ length c.args.first.now + taken_of c.in-Err.fault = omega (arith, c.after.ensures, c.in_ok-done.ensures.count) in
    cut_second _ _ _ _ _ _ c.args.first.now c.args.second.now _ _ c.in_ok-done.ensures.writes c.in-Err.ensures.writes moved
