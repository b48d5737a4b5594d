use Rattle.std.proofs.Common.{◌≡◌, ◌-◌, ◌+◌, suc, ap, refl, arith}
use Rattle.pieces.proofs.Texts.{all_left, all_put, next_put}
use Rattle.pdf.specs.Documents.{names_text}
use Rattle.pdf.proofs.fonts.put_glyphs.Goals as goal

pub loop-index-init : goal.loop-index-init
loop-index-init g c = all_left c.requires.sound refl

pub loop-index-preserved : goal.loop-index-preserved
loop-index-preserved g c =
    let l = c.loop-index in
    let one : 256 - l.index ≡ suc (256 - (l.index + 1)) = omega (arith, c.loop-index-test.true) in
    next_put l.invariant c.put.ensures.puts (ap names_text one)

pub returns : goal.returns
returns g c =
    let l = c.loop-index in
    let none : 256 - l.index ≡ 0 = omega (arith, c.loop-index-test.false) in
    record { puts = all_put l.invariant (ap names_text none) }
