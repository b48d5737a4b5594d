use Rattle.std.proofs.Common.{◌≡◌, ◌+◌, ◌-◌, ◌∙◌, ap, arith}
use Rattle.std.specs.Int.{w64, from_le_bytes}
use Rattle.stroke_raster.proofs.Words.{word_inked}
use Rattle.stroke_raster.proofs.ink.ink_word.Goals as goal

pub returns : goal.returns
returns c =
    let size : c.args.at + 8 - c.args.at ≡ 8 = omega arith in
    let read = rw size at c.word_of-old.ensures in
    let turned = c.from_le_bytes-turned.ensures ∙ ap (from_le_bytes w64) c.to_be_bytes.ensures in
    let new = c.copy_from_slice.ensures.after ∙ c.to_le_bytes.ensures in
    let inked = word_inked c.args.at c.word_of-old.result c.from_le_bytes-turned.result c.args.word c.args.line.now c.requires.inside read turned in
    rw (size, new) inked
