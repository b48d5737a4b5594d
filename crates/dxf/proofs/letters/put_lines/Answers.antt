use Rattle.std.proofs.Common.{List, ap, refl}
use Rattle.labels.specs.Labels.{LineShape}
use Rattle.pieces.proofs.Texts.{all_left, next_put}
use Rattle.svg.proofs.Texts.{next_item}
use Rattle.dxf.specs.Letters.{lines_text}
use Rattle.dxf.proofs.letters.put_lines.Goals as goal

pub loop-line-init : goal.loop-line-init
loop-line-init g c = all_left c.requires.sound refl

pub loop-line-preserved : goal.loop-line-preserved
loop-line-preserved g c =
    let l = c.loop-line in
    next_put l.invariant c.put_line.ensures.puts
    (ap (λ (z : List LineShape). lines_text c.args.layers.now c.args.stroke.now z) (next_item c.args.lines.now l.line-index c.line-item.result c.loop-line-test.true c.line-item.is))
