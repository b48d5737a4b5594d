use Rattle.std.proofs.Common.{◌+◌, ◌-◌, ◌/◌, ◌%◌, refl, arith}
use Rattle.stroke_raster.proofs.Words.{few_inked, mask_order, word_mask}
use Rattle.stroke_raster.proofs.ink.ink_few.Goals as goal

pub overflow_sub-word : goal.overflow_sub-word
overflow_sub-word c = mask_order (c.args.span.low % 8) (c.args.span.low % 8 + (c.args.span.end - c.args.span.low)) (omega arith) (omega (arith, c.requires.order, c.requires.few))

pub returns : goal.returns
returns c =
    let low = c.args.span.low in
    let end = c.args.span.end in
    let mask = word_mask (low % 8) (low % 8 + (end - low)) (omega arith) (omega (arith, c.requires.order, c.requires.few)) in
    few_inked low end (low / 8) (low % 8) (low % 8 + (end - low)) _ c.args.line.now _ refl refl refl c.requires.order c.requires.few mask c.ink_word.ensures
