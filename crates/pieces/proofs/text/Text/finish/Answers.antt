use Rattle.std.proofs.Common.{refl, arith, ◌≡◌, [], take}
use Rattle.pieces.specs.Texts.{counted, progress}
use Rattle.pieces.proofs.Texts.{finished}
use Rattle.pieces.proofs.text.Text.finish.Goals as goal

pub returns-in-None-clause-finishes : goal.returns-in-None-clause-finishes
returns-in-None-clause-finishes g c =
    let t = c.flush.new.self in
    let none : take t.used t.piece ≡ [] = rw c.flush.ensures.empty refl in
    let all : c.count-count.result ≡ counted t.done = omega (arith, c.flush.ensures.empty, c.count-count.ensures) in
    finished (progress g.K.Sink.state c.args.self.now) (progress g.K.Sink.state t) c.count-count.result c.flush.ensures.puts.goes none all c.in-None.is
